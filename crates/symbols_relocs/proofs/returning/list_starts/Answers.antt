use Rattle.std.proofs.Common.{◌≡◌, ◌+◌, ℕ, Bool, List, length, suc, ap, ◌∙◌, subst, arith}
use Rattle.elf_objects.specs.Below.{least_below}
use Rattle.elf_objects.specs.Elf.{Elf}
use Rattle.symbols_relocs.specs.declared.returning.NamedStart.{NamedStart}
use Rattle.symbols_relocs.specs.CodeNames.{begins_if_any, first_symbol_at}
use Rattle.symbols_relocs.specs.NamedCode.{is_returning_symbol_at, returning_at}
use Rattle.symbols_relocs.proofs.Naming.{no_start, start_passed_by, start_pushed}
use Rattle.symbols_relocs.proofs.returning.list_starts.Goals as goal
use Rattle.symbols_relocs.proofs.returning.list_starts.Goals.{in-Some+in_ok-push, in_default}

pub loop-k-init : goal.loop-k-init
loop-k-init c = λ place. ap (λ (ss : List NamedStart). first_symbol_at ss place) c.new-starts.ensures.items ∙ no_start (is_returning_symbol_at c.args.object.now place) place

one_more : (p : ℕ → Bool) (n : ℕ) → least_below p (suc n) ≡ least_below p (n + 1)
one_more p n = let e : suc n ≡ n + 1 = omega arith in ap (least_below p) e

pub loop-k-preserved : goal.loop-k-preserved
loop-k-preserved c = λ place.
    let o : Elf = c.args.object.now in
    let n : ℕ = c.loop-k.k in
    let p : ℕ → Bool = is_returning_symbol_at o place in
    elim c.match-returning_start.branch [
      | in-Some+in_ok-push w ↦
          ap (λ v. first_symbol_at v.items place) w.starts-is
          ∙ ap (λ (ss : List NamedStart). first_symbol_at ss place) w.in_ok-push.ensures.items
          ∙ start_pushed p place c.loop-k.starts.items w.in-Some.start n (c.loop-k.invariant place) (w.in-Some.ensures.place place) w.in-Some.ensures.own
          ∙ one_more p n
      | in_default w ↦
          ap (λ v. first_symbol_at v.items place) w.starts-is
          ∙ start_passed_by p place c.loop-k.starts.items n (c.loop-k.invariant place) (subst (λ x. begins_if_any place x ≡ p n) w.in_default.is (c.returning_start.ensures.place place))
          ∙ one_more p n
    ]

pub returns : goal.returns
unfolding returning_at
returns c = λ place.
    let o : Elf = c.args.object.now in
    let whole : c.loop-k.k ≡ length o.symbols = omega (arith, c.loop-k-test.false, c.loop-k.auto.k-end, c.symbols-k-end.ensures.value) in
    c.loop-k.invariant place ∙ ap (least_below (is_returning_symbol_at o place)) whole
