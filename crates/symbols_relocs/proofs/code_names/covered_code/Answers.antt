use Rattle.std.proofs.Common.{◌≡◌, ◌&&◌, ℕ, Bool, List, length, ap, ◌∙◌, subst, arith}
use Rattle.std.specs.Prelude.{nat_le}
use Rattle.std.specs.List.{list_any, range_with_len}
use Rattle.ot_base.specs.declared.place.Place.{Place}
use Rattle.elf_objects.specs.Contents.{symbol_at}
use Rattle.elf_objects.specs.Elf.{Elf}
use Rattle.symbols_relocs.specs.declared.extents.Extent.{Extent}
use Rattle.symbols_relocs.specs.Covers.{is_symbol_of}
use Rattle.symbols_relocs.specs.Extents.{has_byte, has_byte_if_any, have_byte, have_start, starts_upto, starts_upto_if_any}
use Rattle.symbols_relocs.specs.NamedCode.{is_byte_of}
use Rattle.symbols_relocs.proofs.Naming.{passed_by, pushed}
use Rattle.symbols_relocs.proofs.code_names.covered_code.Goals as goal
use Rattle.symbols_relocs.proofs.code_names.covered_code.Goals.{in-Some+in_ok-push, in_default}

covers : Elf → Place → ℕ → Bool
covers o place k = is_symbol_of o place.sec k && is_byte_of o k place

starts : Elf → Place → ℕ → Bool
starts o place k = is_symbol_of o place.sec k && nat_le (symbol_at o k).value place.off

pub loop-k-init : goal.loop-k-init
loop-k-init c = record {
  bytes = λ place text. ap (λ (es : List Extent). have_byte es place) c.new-extents.ensures.items;
  starts = λ place text. ap (λ (es : List Extent). have_start es place) c.new-extents.ensures.items;
}

pub loop-k-preserved : goal.loop-k-preserved
unfolding covers starts
loop-k-preserved c =
    let o : Elf = c.args.object.now in
    let n : ℕ = c.loop-k.k in
    elim c.match-symbol_extent.branch [
      | in-Some+in_ok-push w ↦ record {
        bytes = λ place text.
            ap (λ v. have_byte v.items place) w.extents-is
            ∙ ap (λ (es : List Extent). have_byte es place) w.in_ok-push.ensures.items
            ∙ pushed (has_byte place) (covers o place) c.loop-k.extents.items w.in-Some.extent n (c.loop-k.invariant.bytes place text) (w.in-Some.ensures.bytes place text);
        starts = λ place text.
            ap (λ v. have_start v.items place) w.extents-is
            ∙ ap (λ (es : List Extent). have_start es place) w.in_ok-push.ensures.items
            ∙ pushed (starts_upto place) (starts o place) c.loop-k.extents.items w.in-Some.extent n (c.loop-k.invariant.starts place text) (w.in-Some.ensures.starts place text);
      }
      | in_default w ↦ record {
        bytes = λ place text.
            ap (λ v. have_byte v.items place) w.extents-is
            ∙ passed_by (has_byte place) (covers o place) c.loop-k.extents.items n (c.loop-k.invariant.bytes place text) (subst (λ x. has_byte_if_any place x ≡ covers o place n) w.in_default.is (c.symbol_extent.ensures.bytes place text));
        starts = λ place text.
            ap (λ v. have_start v.items place) w.extents-is
            ∙ passed_by (starts_upto place) (starts o place) c.loop-k.extents.items n (c.loop-k.invariant.starts place text) (subst (λ x. starts_upto_if_any place x ≡ starts o place n) w.in_default.is (c.symbol_extent.ensures.starts place text));
      }
    ]

pub returns-clause-bytes : goal.returns-clause-bytes
returns-clause-bytes c = λ place text.
    let o : Elf = c.args.object.now in
    let whole : c.loop-k.k ≡ length o.symbols = omega (arith, c.loop-k-test.false, c.loop-k.auto.k-end, c.symbols-k-end.ensures.value) in
    c.build.ensures.bytes place ∙ c.loop-k.invariant.bytes place text ∙ ap (λ (k : ℕ). list_any (λ j. is_symbol_of o place.sec j && is_byte_of o j place) (range_with_len 0 k)) whole

pub returns-clause-starts : goal.returns-clause-starts
returns-clause-starts c = λ place text.
    let o : Elf = c.args.object.now in
    let whole : c.loop-k.k ≡ length o.symbols = omega (arith, c.loop-k-test.false, c.loop-k.auto.k-end, c.symbols-k-end.ensures.value) in
    c.build.ensures.starts place ∙ c.loop-k.invariant.starts place text ∙ ap (λ (k : ℕ). list_any (λ j. is_symbol_of o place.sec j && nat_le (symbol_at o j).value place.off) (range_with_len 0 k)) whole
