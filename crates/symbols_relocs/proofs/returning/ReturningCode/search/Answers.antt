use Rattle.std.proofs.Common.{◌≡◌, ◌<◌, ◌≤◌, ℕ, true, false, None, Some, List, length, get_or, sym, ap, ◌∙◌, subst, arith}
use Rattle.std.proofs.lemmas.List.{get_or_default}
use Rattle.ot_base.specs.Places.{is_before}
use Rattle.symbols_relocs.specs.declared.returning.NamedStart.{NamedStart}
use Rattle.symbols_relocs.specs.CodeNames.{begins_at, first_symbol_at}
use Rattle.symbols_relocs.proofs.Naming.{found_first, found_none, no_named}
use Rattle.symbols_relocs.proofs.returning.ReturningCode.search.Goals as goal

pub returns-then-first-len : goal.returns-then-first-len
returns-then-first-len c =
    let ss : List NamedStart = c.self.inside.starts.items in
    let e = c.deref.ensures.value in
    let n = c.count_before-first.ensures in
    subst (λ (xs : List NamedStart). None ≡ first_symbol_at xs c.args.place) c.self.view_is
    (found_none ss c.args.place c.self.invariant c.count_before-first.result
    (subst (λ (xs : List NamedStart). (k : ℕ) (d : NamedStart) → k < c.count_before-first.result → is_before (get_or xs k d).start c.args.place ≡ true) e n.before)
    (subst (λ (xs : List NamedStart). (k : ℕ) (d : NamedStart) → c.count_before-first.result ≤ k → k < length xs → is_before (get_or xs k d).start c.args.place ≡ false) e n.others)
    (λ inside. absurd (omega (arith, inside, c.if-first-len.true, c.len.ensures))))

pub returns-then-begins : goal.returns-then-begins
returns-then-begins c =
    let ss : List NamedStart = c.self.inside.starts.items in
    let e = c.deref.ensures.value in
    let n = c.count_before-first.ensures in
    let inside : c.count_before-first.result < length ss = omega (arith, c.if-first-len.false, c.len.ensures) in
    let own : c.index-start.result.now ≡ get_or ss c.count_before-first.result no_named = c.index-start.ensures ∙ get_or_default ss c.count_before-first.result c.index-start.result.now no_named inside in
    ap (λ (s : NamedStart). Some s.sym) own
    ∙ subst (λ (xs : List NamedStart). Some (get_or ss c.count_before-first.result no_named).sym ≡ first_symbol_at xs c.args.place) c.self.view_is
    (found_first ss c.args.place c.self.invariant c.count_before-first.result
    (subst (λ (xs : List NamedStart). (k : ℕ) (d : NamedStart) → k < c.count_before-first.result → is_before (get_or xs k d).start c.args.place ≡ true) e n.before)
    (subst (λ (xs : List NamedStart). (k : ℕ) (d : NamedStart) → c.count_before-first.result ≤ k → k < length xs → is_before (get_or xs k d).start c.args.place ≡ false) e n.others)
    inside (ap (begins_at c.args.place) (sym own) ∙ sym c.if-begins.ensures))

pub returns-else-begins : goal.returns-else-begins
returns-else-begins c =
    let ss : List NamedStart = c.self.inside.starts.items in
    let e = c.deref.ensures.value in
    let n = c.count_before-first.ensures in
    let inside : c.count_before-first.result < length ss = omega (arith, c.if-first-len.false, c.len.ensures) in
    let own : c.index-start.result.now ≡ get_or ss c.count_before-first.result no_named = c.index-start.ensures ∙ get_or_default ss c.count_before-first.result c.index-start.result.now no_named inside in
    subst (λ (xs : List NamedStart). None ≡ first_symbol_at xs c.args.place) c.self.view_is
    (found_none ss c.args.place c.self.invariant c.count_before-first.result
    (subst (λ (xs : List NamedStart). (k : ℕ) (d : NamedStart) → k < c.count_before-first.result → is_before (get_or xs k d).start c.args.place ≡ true) e n.before)
    (subst (λ (xs : List NamedStart). (k : ℕ) (d : NamedStart) → c.count_before-first.result ≤ k → k < length xs → is_before (get_or xs k d).start c.args.place ≡ false) e n.others)
    (λ _. ap (begins_at c.args.place) (sym own) ∙ sym c.if-begins.ensures))
