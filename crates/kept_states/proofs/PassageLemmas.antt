-- How states pass points, told of one after another.
use Rattle.std.specs.Prelude.{IsTrue}
use Rattle.std.proofs.Common.{◌≡◌, ◌≢◌, ℕ, ◌+◌, ◌^◌, ◌<◌, ◌&&◌, ◌==◌, Bool, true, false, not, Option, inl, inr, All, Contains, List, [], ◌∷◌, None, if◌then◌else◌, length, get_or, set, refl, sym, subst, arith, length-set, Result}
use Rattle.std.proofs.lemmas.List.{get_or-set_same, get_or-set_other}
use Rattle.unwinding_law.proofs.Lists.{here}
use Rattle.state_defs.specs.declared.state.State.{State}
use Rattle.machine_defs.specs.Program.{Program}
use Rattle.machine_defs.specs.declared.flow.Edge.{Edge}
use Rattle.machine_defs.specs.declared.flow.EdgeKind.{EdgeKind}
use Rattle.machine_defs.specs.declared.flow.EdgeKind.TheVariants.{Next, Taken, Fixup, Table, Sibling}
use Rattle.machine_defs.specs.Kept.{brought_along, is_at_entry, moved, state_at}
use Rattle.kept_states.specs.declared.passages.Passage.{Passage}
use Rattle.kept_states.specs.declared.passages.Passage.TheVariants.{LastsStraight, MovesStraight, LastsAlongEdges, MovesAlongEdges}
use Rattle.kept_states.specs.Passages.{AreLinked, AreToldBelow, IsPassage, comes_in, goes_straight_on, next_edge}
use Rattle.kept_states.proofs.Places.{same_or_not}

-- one more point is told of
pub told_more : (p : Program) (passages : List Passage) (n : ℕ) (passage : Passage) → n < length passages → IsPassage p n passage → AreToldBelow p passages n → AreToldBelow p (set passages n passage) (n + 1)
told_more p passages n passage inside own told k d less = elim (same_or_not n k) [
  | inl e ↦ subst (λ (m : ℕ). IsPassage p m (get_or (set passages n passage) m d)) (sym e) (subst (IsPassage p n) (sym (get_or-set_same passages n passage d inside)) own)
  | inr differ ↦ subst (IsPassage p k) (sym (get_or-set_other passages n k passage d differ)) (told k d (below differ))
]
  where
    below : k ≢ n → k < n
    below differ = elim (same_or_not n k) [ inl e ↦ absurd (differ e) | inr other ↦ (let h = other in grind arith) ]

-- one is told of in another way
pub told_otherwise : (p : Program) (passages : List Passage) (n m : ℕ) (passage any : Passage) → n < length passages → (IsPassage p n (get_or passages n any) → IsPassage p n passage) → AreToldBelow p passages m → AreToldBelow p (set passages n passage) m
told_otherwise p passages n m passage any inside too told k d less = elim (same_or_not n k) [
  | inl e ↦ subst (λ (i : ℕ). IsPassage p i (get_or (set passages n passage) i d)) (sym e)
      (subst (IsPassage p n) (sym (get_or-set_same passages n passage d inside)) (too (subst (λ (i : ℕ). IsPassage p i (get_or passages i any)) e (told k any less))))
  | inr differ ↦ subst (IsPassage p k) (sym (get_or-set_other passages n k passage d differ)) (told k d less)
]

-- so states pass a point too that is told to give to the next one alone, and needn't be
pub lasts_along_edges : (p : Program) (n : ℕ) → IsPassage p n LastsStraight → IsPassage p n LastsAlongEdges
lasts_along_edges p n own = record { takes = own.takes; neutral = own.neutral; giving = own.giving.0 }

pub moves_along_edges : (p : Program) (n : ℕ) → IsPassage p n MovesStraight → IsPassage p n MovesAlongEdges
moves_along_edges p n own = record { takes = own.takes; neutral = own.neutral; giving = own.giving.0 }

-- one more that states come in at, or that no point before it gives to alone
pub linked_more : (passages : List Passage) (n : ℕ) (passage : Passage) → n < length passages → (goes_straight_on passage ≡ true → (n + 1 < 2 ^ 32) × (n + 1 < length passages)) → ((k : ℕ) (d : Passage) → k + 1 ≡ n → goes_straight_on (get_or passages k d) ≡ true → comes_in passage ≡ true)
    → AreLinked passages n → AreLinked (set passages n passage) (n + 1)
linked_more passages n passage inside own before linked k d less straight = elim (same_or_not n k) [
  | inl e ↦ last e
  | inr differ ↦ (let old = linked k d (below differ) (subst (λ (x : Passage). goes_straight_on x ≡ true) (get_or-set_other passages n k passage d differ) straight) in
      (old.0, rw (length-set) old.1, λ next. opens differ old.2 next))
]
  where
    below : k ≢ n → k < n
    below differ = let h = less in omega (arith, h, differ)

    last : k ≡ n → (k + 1 < 2 ^ 32) × (k + 1 < length (set passages n passage)) × (k + 1 < n + 1 → comes_in (get_or (set passages n passage) (k + 1) d) ≡ true)
    last e =
        let here : get_or (set passages n passage) k d ≡ passage = subst (λ (m : ℕ). get_or (set passages n passage) m d ≡ passage) (sym e) (get_or-set_same passages n passage d inside) in
        let is = own (subst (λ (x : Passage). goes_straight_on x ≡ true) here straight) in
        (omega (arith, is.0, e), rw (length-set) (omega (arith, is.1, e)), λ next. absurd (omega (arith, next, e)))

    opens : k ≢ n → (k + 1 < n → comes_in (get_or passages (k + 1) d) ≡ true) → k + 1 < n + 1 → comes_in (get_or (set passages n passage) (k + 1) d) ≡ true
    opens differ old next = elim (same_or_not n (k + 1)) [
      | inl e ↦ subst (λ (x : Passage). comes_in x ≡ true) (sym (subst (λ (m : ℕ). get_or (set passages n passage) m d ≡ passage) (sym e) (get_or-set_same passages n passage d inside)))
          (before k d e (subst (λ (x : Passage). goes_straight_on x ≡ true) (get_or-set_other passages n k passage d differ) straight))
      | inr other ↦ subst (λ (x : Passage). comes_in x ≡ true) (sym (get_or-set_other passages n (k + 1) passage d other)) (old (omega (arith, next, other)))
    ]

pub open_gives : {X : Type 0} (unchecked free : Bool) (gifts : List X) → (not unchecked && free) ≡ true → (if unchecked then [] else (if free then gifts else [])) ≡ gifts
open_gives false true gifts h = refl
open_gives false false gifts h = absurd (let bad : false ≡ true = h in cc)
open_gives true free gifts h = absurd (let bad : false ≡ true = h in cc)

pub closed_gives_none : {X : Type 0} (unchecked free : Bool) (gifts : List X) → (not unchecked && free) ≡ false → (if unchecked then [] else (if free then gifts else [])) ≡ []
closed_gives_none true free gifts h = refl
closed_gives_none false false gifts h = refl
closed_gives_none false true gifts h = absurd (let bad : true ≡ false = h in cc)

no_state : (unchecked : Bool) (state : Option State) → state ≡ None → (if unchecked then None else state) ≡ None
no_state true state h = refl
no_state false state h = h

-- a point that has no hint, and where no control stands that comes to an entry, isn't of level 0
pub not_first : (p : Program) (n : ℕ) → p.hint n ≡ None → is_at_entry p n ≡ false → state_at p 0 n ≡ None
not_first p n hint entry = rw hint (rw entry (no_state (p.unchecked n) None refl))

-- a state that the operation leaves as it is goes along all edges but those to another function
pub brought_same : (s t : State) (after : Result State ℕ) (kind : EdgeKind) → kind ≢ Sibling → moved after ≡ t ∷ [] → s ≡ t → brought_along s after kind ≡ t ∷ []
brought_same s t after Next other e same = e
brought_same s t after Taken other e same = e
brought_same s t after Fixup other e same = rw same refl
brought_same s t after Table other e same = e
brought_same s t after Sibling other e same = absurd (other refl)

-- a Next to the next point leads to one that there is
pub next_inside : (edges : List Edge) (n points : ℕ) → edges ≡ next_edge n ∷ [] → All (λ e. e.to < points) edges → n + 1 < points
next_inside edges n points e within = (subst (λ (es : List Edge). All (λ e. e.to < points) es) e within) 0 (next_edge n) (omega arith)

-- what is told of four at once is told of each
pub each_of_four : (a b c d : Bool) → IsTrue (((a && b) && c) && d) → IsTrue a × IsTrue b × IsTrue c × IsTrue d
each_of_four true true true true h = (refl, refl, refl, refl)
each_of_four true true true false h = absurd (let bad : false ≡ true = h in cc)
each_of_four true true false d h = absurd (let bad : false ≡ true = h in cc)
each_of_four true false c d h = absurd (let bad : false ≡ true = h in cc)
each_of_four false b c d h = absurd (let bad : false ≡ true = h in cc)

-- a list that isn't empty has something
pub something : (xs : List ℕ) → not (length xs == 0) ≡ true → (x : ℕ) × Contains xs x
something [] h = absurd (let bad : false ≡ true = h in cc)
something (x ∷ xs) h = (x, here x xs)
