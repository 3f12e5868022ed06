-- What few points have otherwise than most, of one point more.
use Rattle.std.proofs.Common.{◌≡◌, ℕ, ◌+◌, ◌≤◌, List, [], ◌∷◌, ◌++◌, Option, Some, None, length, refl, sym, subst, arith}
use Rattle.std.specs.Prelude.{MatchOption, slice_get}
use Rattle.std.proofs.lemmas.List.{length_push}
use Rattle.object_points.proofs.Items.{earlier_item, last_item}
use Rattle.flow_defs.specs.Coded.{Coded}
use Rattle.program_graph.specs.declared.parts.Hinted.{Hinted}
use Rattle.program_graph.specs.declared.parts.Rare.{Rare}
use Rattle.control_flow.specs.Hinted.{IsHinted, IsUnhinted}
use Rattle.control_flow.specs.Numbers.{IsNumbered}
use Rattle.control_flow.specs.Rares.{AreRares, IsKnown, IsRare, IsRareOf}
use Rattle.control_flow.specs.declared.rares.TheConstants.{USUAL}
use Rattle.control_flow.proofs.Numbering.{few_otherwise, first_numbered, numbered_more}
use Rattle.control_flow.proofs.Steps.{items_more}

pub no_rares : (o : Coded) (restores : List ℕ) → AreRares o restores (USUAL ∷ []) [] [] 0
no_rares o restores = record {
  numbered = first_numbered (IsRareOf o restores []) USUAL;
  usual = refl;
  short = omega arith;
  ranges = λ k x at. absurd (let z : ⊥ = cc in z);
}

-- the list grew by one or stayed, and the number tells which
abbrev pub Grew : List Hinted → List Hinted → Option Hinted → Option ℕ → Type 0
Grew before after found number = MatchOption found ((number ≡ None) × (after ≡ before)) (λ x. (number ≡ Some (length before)) × (after ≡ before ++ x ∷ []))

-- where the RESTOREs of what points have stand in their list
abbrev HasRange : List ℕ → ℕ → Hinted → Type 0
HasRange restores k x = (x.restores_from ≤ x.restores_to) × (x.restores_to ≤ length restores)

-- a list that is one point longer
record IsLonger (o : Coded) (restores : List ℕ) (before after : List Hinted) (n : ℕ) (known : Option ℕ) : Type 0 where
  later : (q : ℕ) (number : Option ℕ) → IsKnown o restores before q number → IsKnown o restores after q number
  here : IsKnown o restores after n known
  short : length after ≤ length before + 1
  ranges : ((k : ℕ) (x : Hinted) → slice_get before k ≡ Some x → HasRange restores k x) → (k : ℕ) (x : Hinted) → slice_get after k ≡ Some x → HasRange restores k x

same_some : {a b : ℕ} → Some a ≡ Some b → a ≡ b
same_some e = cc

module _ (o : Coded) (restores : List ℕ) (before : List Hinted) (n : ℕ) where
  with_none : IsUnhinted o n → IsLonger o restores before before n None
  with_none usual = record {
    later = λ q number is. is;
    here = record { inside = λ k e. absurd (let z : ⊥ = cc in z); own = λ k x e at. absurd (let z : ⊥ = cc in z); unhinted = λ e. usual };
    short = omega arith;
    ranges = λ each. each;
  }

  with_one : (x : Hinted) → IsHinted o restores n x → IsLonger o restores before (before ++ x ∷ []) n (Some (length before))
  with_one x is = record {
    later = λ q number known. record {
      inside = λ k e. omega (arith, known.inside k e, length_push before x);
      own = λ k y e at. known.own k y e (earlier_item before x y k (known.inside k e) at);
      unhinted = known.unhinted;
    };
    here = record {
      inside = λ k e. let last : length before ≡ k = same_some e in omega (arith, last, length_push before x);
      own = λ k y e at. subst (IsHinted o restores n) (last_item before x y k (sym (same_some e)) at) is;
      unhinted = λ e. absurd (let z : ⊥ = cc in z);
    };
    short = omega (arith, length_push before x);
    ranges = λ each. items_more (HasRange restores) before x each (is.order, is.within);
  }

  longer : (found : Option Hinted) (known : Option ℕ) (after : List Hinted) → MatchOption found (IsUnhinted o n) (IsHinted o restores n) → Grew before after found known → IsLonger o restores before after n known
  longer None known after usual grew = subst (λ (list : List Hinted). IsLonger o restores before list n known) (sym grew.1) (subst (IsLonger o restores before before n) (sym grew.0) (with_none usual))
  longer (Some x) known after is grew =
      subst (λ (list : List Hinted). IsLonger o restores before list n known) (sym grew.1)
      (subst (IsLonger o restores before (before ++ x ∷ []) n) (sym grew.0) (with_one x is))

-- one more, whose record has a number
pub more_rares : (o : Coded) (restores : List ℕ) (before after : List Rare) (hinted grown : List Hinted) (numbers : List ℕ) (n : ℕ) (found : Option Hinted) (known : Option ℕ) (number : ℕ) (x : Rare)
    → AreRares o restores before hinted numbers n
    → MatchOption found (IsUnhinted o n) (IsHinted o restores n)
    → Grew hinted grown found known
    → IsRare o n known x
    → IsNumbered before after x number
    → AreRares o restores after grown (numbers ++ number ∷ []) (n + 1)
more_rares o restores before after hinted grown numbers n found known number x are is grew rare numbered =
    let more : IsLonger o restores hinted grown n known = longer o restores hinted n found known grown is grew in
    let old = few_otherwise (IsRareOf o restores hinted) (IsRareOf o restores grown) before numbers n (λ q y below own. record { rare = own.rare; known = more.later q y.hinted own.known }) are.numbered in
    let here : IsRareOf o restores grown n x = record { rare = subst (λ (k : Option ℕ). IsRare o n k x) rare.hinted rare; known = subst (IsKnown o restores grown n) rare.hinted more.here } in
    record {
      numbered = numbered_more (IsRareOf o restores grown) before after numbers n number x old numbered here;
      usual = numbered.kept 0 USUAL are.usual;
      short = omega (arith, more.short, are.short);
      ranges = more.ranges are.ranges;
    }
