use Rattle.std.proofs.Common.{◌≡◌, ℕ, ◌<◌, ◌-◌, List, Some, length, not, refl, sym, ap, ◌∙◌, subst, arith}
use Rattle.std.specs.Prelude.{slice_get}
use Rattle.std.proofs.lemmas.Bool.{false≢true}
use Rattle.std.proofs.lemmas.Option.{slice_get_read}
use Rattle.program_graph.specs.declared.parts.Rare.{Rare}
use Rattle.control_flow.proofs.Equal.{same_rare}
use Rattle.control_flow.proofs.rares.number_rare.Goals.{else-not-is_first, then-not-is_first}
use Rattle.control_flow.proofs.rares.number_rare.Goals as goal

pub number_of-requires-clause-first : goal.number_of-requires-clause-first
number_of-requires-clause-first c is =
    let all : List Rare = c.args.rares.now.items in
    subst (λ (x : Rare). slice_get all 0 ≡ Some x) ((same_rare c.index.result.now c.args.rare).0 (sym c.eq-is_first.ensures ∙ is))
    (slice_get_read all (length all) 0 c.index.result.now refl c.requires.some c.index.ensures)

pub number_of-requires-clause-last : goal.number_of-requires-clause-last
number_of-requires-clause-last c is =
    let all : List Rare = c.args.rares.now.items in
    elim c.if-not-is_first.branch [
      | then-not-is_first w ↦
          let last : w.len.result - 1 ≡ length all - 1 = omega (arith, w.len.ensures) in
          let inside : w.len.result - 1 < length all = omega (arith, w.len.ensures, c.requires.some) in
          subst (λ (k : ℕ). slice_get all k ≡ Some c.args.rare) last
          (subst (λ (x : Rare). slice_get all (w.len.result - 1) ≡ Some x) ((same_rare w.index-then-not-is_first.result.now c.args.rare).0 (sym w.eq-is_last.ensures ∙ (sym w.is_last-is ∙ is)))
          (slice_get_read all (length all) (w.len.result - 1) w.index-then-not-is_first.result.now refl inside w.index-then-not-is_first.ensures))
      | else-not-is_first w ↦ absurd (false≢true (sym (ap not w.if-not-is_first.false) ∙ (sym w.is_last-is ∙ is)))
    ]
