-- Parts to which jumps of holes lead, by the points that are in them.
use Rattle.std.proofs.Common.{◌≡◌, ◌⊎◌, ◌↔◌, ◌<◌, ◌+◌, ℕ, true, List, [], ◌∷◌, Option, Contains, inl, inr, refl, sym, ◌∙◌, subst, length, take, get_or, arith}
use Rattle.std.proofs.lemmas.Bool.{cases_lt}
use Rattle.std.proofs.lemmas.List.{take_more}
use Rattle.std.proofs.lemmas.List.Elements.{Contains-append_left, Contains-append_right, Contains-append_cases}
use Rattle.ot_base.specs.declared.options.Options.{Options}
use Rattle.machine_defs.specs.declared.flow.Edge.{Edge}
use Rattle.machine_defs.specs.declared.flow.EdgeKind.{EdgeKind}
use Rattle.machine_defs.specs.declared.flow.EdgeKind.TheVariants.{Taken}
use Rattle.machine_defs.specs.Program.{Program, edge}
use Rattle.machine_defs.specs.Kept.{can_go, edges_of}
use Rattle.machine_defs.specs.Broken.{IsInPartOfHole, is_hole}
use Rattle.unwinding_law.proofs.Lists.{here, cases, nowhere, in_filter, from_filter}
use Rattle.stack_rules.specs.declared.holes.HoleParts.{HoleParts}
use Rattle.stack_rules.specs.Holes.{AreHoleParts, EntersPart, IsAmong, LeadsFrom}

-- what holds of one of the first elements of a list, or of the next one
pub some_more : {X : Type 0} (xs : List X) (i : ℕ) (d : X) (P : X → Type 0) → i < length xs → ((x : X) × Contains (take (i + 1) xs) x × P x) ↔ (((x : X) × Contains (take i xs) x × P x) ⊎ P (get_or xs i d))
some_more {X} xs i d P l = (λ k. to k, λ k. from k)
  where
    to : (x : X) × Contains (take (i + 1) xs) x × P x → ((x : X) × Contains (take i xs) x × P x) ⊎ P (get_or xs i d)
    to (x, c, h) = elim (Contains-append_cases (take i xs) (get_or xs i d ∷ []) x (subst (λ (ys : List X). Contains ys x) (take_more xs i d l) c)) [
      | inl a ↦ inl (x, a, h)
      | inr b ↦ elim (cases (get_or xs i d) [] x b) [ inl e ↦ inr (subst P (sym e) h) | inr n ↦ nowhere x n ]
    ]

    from : ((x : X) × Contains (take i xs) x × P x) ⊎ P (get_or xs i d) → (x : X) × Contains (take (i + 1) xs) x × P x
    from (inl (x, c, h)) = (x, subst (λ (ys : List X). Contains ys x) (sym (take_more xs i d l)) (Contains-append_left (take i xs) (get_or xs i d ∷ []) x c), h)
    from (inr h) = (get_or xs i d, subst (λ (ys : List X). Contains ys (get_or xs i d)) (sym (take_more xs i d l)) (Contains-append_right (take i xs) (get_or xs i d ∷ []) (get_or xs i d) (here (get_or xs i d) [])), h)

-- what is new, and what was new before
pub new_of : {Old Mid New Some One More : Type 0} → Mid ↔ (Old ⊎ Some) → New ↔ (Mid ⊎ One) → More ↔ (Some ⊎ One) → New ↔ (Old ⊎ More)
new_of mid new more = (
  λ k. elim (new.0 k) [ inl m ↦ elim (mid.0 m) [ inl o ↦ inl o | inr s ↦ inr (more.1 (inl s)) ] | inr o ↦ inr (more.1 (inr o)) ],
  λ k. elim k [ inl o ↦ new.1 (inl (mid.1 (inl o))) | inr m ↦ elim (more.0 m) [ inl s ↦ new.1 (inl (mid.1 (inr s))) | inr o ↦ new.1 (inr o) ] ],
)

-- where the point is a hole of the object's code, its jumps lead from a hole
pub leads_from : (p : Program) (options : Options) (q : ℕ) (part : Option ℕ) (edges : List Edge) → edges ≡ edges_of p q → p.variant q ≡ 0 → is_hole p options q ≡ true → ((e : Edge) × Contains edges e × EntersPart p e part) ↔ LeadsFrom p options q part
leads_from p options q part edges are plain left = (
  λ (e, c, enters). record { plain = plain; left = left; edge = e; own = subst (λ (es : List Edge). Contains es e) are c; enters = enters },
  λ k. (k.edge, subst (λ (es : List Edge). Contains es k.edge) (sym are) k.own, k.enters),
)

-- the same of what they lead to
pub led_by : {Old New More Same : Type 0} → New ↔ (Old ⊎ More) → More ↔ Same → New ↔ (Old ⊎ Same)
led_by new same = (
  λ k. elim (new.0 k) [ inl o ↦ inl o | inr m ↦ inr (same.0 m) ],
  λ k. elim k [ inl o ↦ new.1 (inl o) | inr s ↦ new.1 (inr (same.1 s)) ],
)

-- those from the first points, and one point more
pub parts_more : (p : Program) (options : Options) (n : ℕ) (old new : HoleParts) → AreHoleParts p options n old → ((part : Option ℕ) → IsAmong new part ↔ (IsAmong old part ⊎ LeadsFrom p options n part)) → AreHoleParts p options (n + 1) new
parts_more p options n old new are more part = (λ k. to ((more part).0 k), λ k. from k)
  where
    to : IsAmong old part ⊎ LeadsFrom p options n part → (hole : ℕ) × (hole < n + 1) × LeadsFrom p options hole part
    to (inl k) = let r = (are part).0 k in (r.0, (let l : r.0 < n = r.1 in omega (arith, l)), r.2)
    to (inr k) = (n, omega arith, k)

    split : (hole : ℕ) → hole < n + 1 → (hole < n) ⊎ (hole ≡ n)
    split hole l = elim (cases_lt hole n) [ inl low ↦ inl low | inr high ↦ inr (omega (arith, l, high)) ]

    from : (hole : ℕ) × (hole < n + 1) × LeadsFrom p options hole part → IsAmong new part
    from (hole, l, k) = elim (split hole l) [
      | inl low ↦ (more part).1 (inl ((are part).1 (hole, low, k)))
      | inr same ↦ (more part).1 (inr (subst (λ (x : ℕ). LeadsFrom p options x part) same k))
    ]

module _ (p : Program) (options : Options) (parts : HoleParts) (are : AreHoleParts p options p.count parts) (q : ℕ) where
  pub to_part : IsAmong parts (p.function q) → IsInPartOfHole p options q
  to_part among =
      let led = (are (p.function q)).0 among in
      let from : LeadsFrom p options led.0 (p.function q) = led.2 in
      let e : Edge = from.edge in
      record {
        hole = led.0;
        point = led.1;
        plain = from.plain;
        left = from.left;
        entered = e.to;
        leads = subst (λ (kind : EdgeKind). Contains (p.goes led.0) (edge e.to kind)) from.enters.taken (from_filter (λ (x : Edge). can_go p led.0 x.kind) (p.goes led.0) e from.own).0;
        of_part = λ same. from.enters.owner (sym same ∙ from.enters.function);
        same = sym from.enters.function;
      }

  pub from_part : IsInPartOfHole p options q → IsAmong parts (p.function q)
  from_part is = (are (p.function q)).1 (
    is.hole,
    is.point,
    record {
      plain = is.plain;
      left = is.left;
      edge = edge is.entered Taken;
      own = in_filter (λ (x : Edge). can_go p is.hole x.kind) (p.goes is.hole) (edge is.entered Taken) is.leads refl;
      enters = record { taken = refl; function = sym is.same; owner = λ same. is.of_part (sym (same ∙ is.same)) };
    },
  )
