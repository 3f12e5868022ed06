-- The points of a graph, one more.
use Rattle.std.proofs.Common.{◌≡◌, ℕ, ◌+◌, ◌<◌, Bool, List, [], ◌∷◌, ◌++◌, Some, false, length, get_or, refl, sym, ◌∙◌, subst, arith}
use Rattle.std.specs.Prelude.{slice_get}
use Rattle.std.proofs.lemmas.List.{get_or_append_left, get_or_default, get_or_push, length_push}
use Rattle.std.proofs.lemmas.Option.{slice_get_within}
use Rattle.ot_base.specs.NameLists.{NameLists}
use Rattle.flow_defs.specs.Coded.{Coded}
use Rattle.program_graph.specs.declared.parts.Owner.{Owner}
use Rattle.program_graph.specs.declared.parts.GraphPoint.{GraphPoint}
use Rattle.program_graph.specs.declared.parts.Hinted.{Hinted}
use Rattle.program_graph.specs.declared.parts.PointKind.{PointKind}
use Rattle.program_graph.specs.declared.parts.Rare.{Rare}
use Rattle.return_search.specs.declared.found_returns.Returns.{Returns}
use Rattle.control_flow.specs.Numbers.{IsNumbered}
use Rattle.control_flow.specs.Points.{AreMade, AreMadeAll, HasKind, IsKind, IsMade, IsPlaced}
use Rattle.control_flow.specs.Rares.{AreRares}
use Rattle.control_flow.specs.declared.points.Shared.{Shared}
use Rattle.control_flow.specs.declared.rares.RareTable.{RareTable}
use Rattle.control_flow.specs.declared.rares.TheConstants.{USUAL}
use Rattle.control_flow.proofs.RareSteps.{no_rares}
use Rattle.control_flow.proofs.Steps.{items_more}

module _ (o : Coded) (lists : NameLists) (owners : List Owner) (returns : Returns) (rares transfers : List ℕ) where
  abbrev IsMadeAt : List PointKind → ℕ → GraphPoint → Type 0
  IsMadeAt kinds q x = IsMade o lists owners kinds q (get_or returns.may_return.items q false) (get_or rares q 0) (get_or transfers q 0) x

  abbrev IsKindAt : ℕ → PointKind → Type 0
  IsKindAt q k = IsKind o lists q (get_or returns.may_return.items q false) (get_or rares q 0) (get_or transfers q 0) k

  -- points keep their kinds where one is numbered
  still_made : (before after : List PointKind) (k : PointKind) (number q : ℕ) (x : GraphPoint) → IsNumbered before after k number → IsMadeAt before q x → IsMadeAt after q x
  still_made before after k number q x is made = record {
    placed = made.placed;
    kind = made.kind;
    named = is.kept x.kind made.kind made.named;
    is_kind = made.is_kind;
  }

  made_more : (before after : List PointKind) (k : PointKind) (number : ℕ) (made : List GraphPoint) (n : ℕ) (x : GraphPoint) → AreMade o lists owners returns rares transfers before made n → IsNumbered before after k number → IsKindAt n k → IsPlaced o lists owners n number x → AreMade o lists owners returns rares transfers after (made ++ x ∷ []) (n + 1)
  made_more before after k number made n x are is kind placed = record {
    long = omega (arith, length_push made x, are.long);
    each = items_more (IsMadeAt after) made x (λ q y at. still_made before after k number q y is (are.each q y at)) (subst (λ (m : ℕ). IsMadeAt after m x) (sym are.long) own);
  }
    where
      own : IsMadeAt after n x
      own = record {
        placed = subst (λ (m : ℕ). IsPlaced o lists owners n m x) placed.kind_number placed;
        kind = k;
        named = subst (λ (m : ℕ). slice_get after m ≡ Some k) placed.kind_number is.here;
        is_kind = kind;
      }

  -- a kind that is made as the lists tell of its point's number
  kind_at : (n : ℕ) (k : PointKind) (may : Bool) (rare transfer : ℕ) → n < length returns.may_return.items → may ≡ get_or returns.may_return.items n may → rare ≡ get_or rares n 0 → transfer ≡ get_or transfers n 0 → IsKind o lists n may rare transfer k → IsKindAt n k
  kind_at n k may rare transfer in_may is_may is_rare is_transfer made =
      subst (λ (m : Bool). IsKind o lists n m (get_or rares n 0) (get_or transfers n 0) k) (is_may ∙ get_or_default returns.may_return.items n may false in_may)
      (subst (λ (r : ℕ). IsKind o lists n may r (get_or transfers n 0) k) is_rare
      (subst (λ (t : ℕ). IsKind o lists n may rare t k) is_transfer made))

-- points keep what few have where one more is told
numbers_more : (o : Coded) (lists : NameLists) (owners : List Owner) (returns : Returns) (rares transfers : List ℕ) (rare : ℕ) (kinds : List PointKind) (made : List GraphPoint) (n : ℕ) → length rares ≡ n → AreMade o lists owners returns rares transfers kinds made n → AreMade o lists owners returns (rares ++ rare ∷ []) transfers kinds made n
numbers_more o lists owners returns rares transfers rare kinds made n long are = record {
  long = are.long;
  each = λ q x at.
      let inside = slice_get_within made q x at in
      subst (λ (r : ℕ). IsMade o lists owners kinds q (get_or returns.may_return.items q false) r (get_or transfers q 0) x) (sym (get_or_append_left rares (rare ∷ []) 0 q (omega (arith, inside, are.long, long)))) (are.each q x at);
}

module _ (o : Coded) (lists : NameLists) (owners : List Owner) (restores : List ℕ) (returns : Returns) (transfers : List ℕ) where
  pub none_made_all : (kinds : List PointKind) (table : RareTable) → table.rares.items ≡ USUAL ∷ [] → table.hinted.items ≡ [] → AreMadeAll o lists owners restores returns transfers kinds table [] 0
  none_made_all kinds table usual none = record {
    numbers = [];
    points = record { long = refl; each = λ q x at. absurd (let z : ⊥ = cc in z) };
    rares = subst (λ (rares : List Rare). AreRares o restores rares table.hinted.items [] 0) (sym usual) (subst (λ (hinted : List Hinted). AreRares o restores (USUAL ∷ []) hinted [] 0) (sym none) (no_rares o restores));
  }

  -- one more, of which a kind is numbered
  pub made_all_more : (before after : Shared) (number : ℕ) (made : List GraphPoint) (n : ℕ) (x : GraphPoint) (may : Bool) (transfer : ℕ) → n < length returns.may_return.items → may ≡ get_or returns.may_return.items n may → transfer ≡ get_or transfers n 0 → AreMadeAll o lists owners restores returns transfers before.kinds.kinds.items before.rares made n → HasKind o lists restores n may transfer before after number → IsPlaced o lists owners n number x → AreMadeAll o lists owners restores returns transfers after.kinds.kinds.items after.rares (made ++ x ∷ []) (n + 1)
  made_all_more before after number made n x may transfer in_may is_may is_transfer are has placed =
      let grown : List ℕ = are.numbers ++ has.rare ∷ [] in
      let long : length are.numbers ≡ n = are.rares.numbered.have.long in
      let is_rare : has.rare ≡ get_or grown n 0 = sym (get_or_push are.numbers has.rare 0 n long) in
      let kept : AreMade o lists owners returns grown transfers before.kinds.kinds.items made n = numbers_more o lists owners returns are.numbers transfers has.rare before.kinds.kinds.items made n long are.points in
      record {
        numbers = grown;
        points = made_more o lists owners returns grown transfers before.kinds.kinds.items after.kinds.kinds.items has.kind number made n x kept has.numbered
            (kind_at o lists owners returns grown transfers n has.kind may has.rare transfer in_may is_may is_rare is_transfer has.is_kind) placed;
        rares = has.rares are.numbers are.rares;
      }
