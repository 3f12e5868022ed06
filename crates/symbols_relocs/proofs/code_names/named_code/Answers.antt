use Rattle.std.proofs.Common.{◌≡◌, ℕ, Bool, List, length, ap, ◌∙◌, subst, arith}
use Rattle.std.specs.List.{list_any, range_with_len}
use Rattle.elf_objects.specs.Elf.{Elf}
use Rattle.symbols_relocs.specs.declared.extents.Extent.{Extent}
use Rattle.symbols_relocs.specs.CodeNames.{names_of}
use Rattle.symbols_relocs.specs.Extents.{has_byte, has_byte_if_any, have_byte}
use Rattle.symbols_relocs.specs.NamedCode.{is_in_named_code, is_named_byte}
use Rattle.symbols_relocs.proofs.Naming.{passed_by, pushed}
use Rattle.symbols_relocs.proofs.code_names.named_code.Goals as goal
use Rattle.symbols_relocs.proofs.code_names.named_code.Goals.{in-Some+in_ok-push, in_default}

pub loop-k-init : goal.loop-k-init
loop-k-init c = λ place. ap (λ (es : List Extent). have_byte es place) c.new-extents.ensures.items

pub loop-k-preserved : goal.loop-k-preserved
loop-k-preserved c = λ place.
    let o : Elf = c.args.object.now in
    let n : ℕ = c.loop-k.k in
    let test : ℕ → Bool = is_named_byte o (names_of c.args.lists.now c.args.of) place in
    elim c.match-named_extent.branch [
      | in-Some+in_ok-push w ↦
          ap (λ v. have_byte v.items place) w.extents-is
          ∙ ap (λ (es : List Extent). have_byte es place) w.in_ok-push.ensures.items
          ∙ pushed (has_byte place) test c.loop-k.extents.items w.in-Some.extent n (c.loop-k.invariant place) (w.in-Some.ensures place)
      | in_default w ↦
          ap (λ v. have_byte v.items place) w.extents-is
          ∙ passed_by (has_byte place) test c.loop-k.extents.items n (c.loop-k.invariant place) (subst (λ x. has_byte_if_any place x ≡ test n) w.in_default.is (c.named_extent.ensures place))
    ]

pub returns : goal.returns
unfolding is_in_named_code
returns c = λ place.
    let o : Elf = c.args.object.now in
    let whole : c.loop-k.k ≡ length o.symbols = omega (arith, c.loop-k-test.false, c.loop-k.auto.k-end, c.symbols-k-end.ensures.value) in
    c.build.ensures.bytes place ∙ c.loop-k.invariant place ∙ ap (λ (k : ℕ). list_any (is_named_byte o (names_of c.args.lists.now c.args.of) place) (range_with_len 0 k)) whole
