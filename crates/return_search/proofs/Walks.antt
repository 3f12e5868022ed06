-- What is found while a search walks over points, and over what leads to one of them.
use Rattle.std.proofs.Common.{◌≡◌, ℕ, ◌<◌, inl, inr, Bool, true, List, Option, Some, None, Contains, map, length, get_or, set, refl, sym, ap, ◌∙◌, subst, arith}
use Rattle.std.proofs.lemmas.List.{get_or_default, length-map}
use Rattle.machine_defs.specs.Program.{Program}
use Rattle.machine_defs.specs.MayReturn.{MayReturn}
use Rattle.return_search.specs.declared.searched_flow.Exit.TheVariants.{Calls}
use Rattle.return_search.specs.declared.searched_flow.Flow.{Flow}
use Rattle.return_search.specs.declared.backward.Lead.{Lead}
use Rattle.return_search.specs.declared.backward.Lead.TheVariants.{Call, Edge}
use Rattle.return_search.specs.declared.return_search.Search.{Search}
use Rattle.return_search.specs.Chained.{IsLastBelow}
use Rattle.return_search.specs.Told.{TellsFlow, exit_at}
use Rattle.return_search.specs.Shape.{HasShape, points_of}
use Rattle.return_search.specs.Backward.{called, edge_at, key_of}
use Rattle.return_search.specs.Search.{is_set, carries, AreListed, AreSound, Extends, FindsMore, IsCarriedBy}
use Rattle.return_search.proofs.Least.{carried_sound}
use Rattle.return_search.proofs.SearchSteps.{IsCursor, IsPassed, cursor_first, cursor_next, none_passed, passed_next, key_at, holds_new, sound_find, extends_itself, extends_more}

-- one point is found, and nothing else
pub record Finds (flow : Flow) (s t : Search) (q : ℕ) : Type 0 where
  pub listed : AreListed flow t
  pub extends : Extends s t
  pub found : t.found.items ≡ set s.found.items q true
  pub known : t.known.items ≡ s.known.items

module _ (flow : Flow) (s t : Search) (q : ℕ) (inside : q < points_of flow) (finds : Finds flow s t q) where
  pub found_now : AreListed flow s → is_set t.found.items q ≡ true
  found_now listed = subst (λ (found : List Bool). is_set found q ≡ true) (sym finds.found) (holds_new s.found.items q (omega (arith, listed.long)))

  pub sound_now : AreSound flow s.found.items s.known.items → ((p : Program) → TellsFlow p flow → MayReturn p q) → AreSound flow t.found.items t.known.items
  sound_now sound may = subst (λ (found : List Bool). AreSound flow found t.known.items) (sym finds.found) (subst (AreSound flow (set s.found.items q true)) (sym finds.known) (sound_find flow s.found.items s.known.items q sound may))

-- nothing more is found
pub finds_nothing : (flow : Flow) (s : Search) → AreListed flow s → AreSound flow s.found.items s.known.items → FindsMore flow s s
finds_nothing flow s listed sound = record {
  listed = listed;
  extends = extends_itself s;
  known = refl;
  sound = sound;
}

-- more is found after more
pub finds_more : (flow : Flow) (r s t : Search) → FindsMore flow r s → FindsMore flow s t → FindsMore flow r t
finds_more flow r s t one other = record {
  listed = other.listed;
  extends = extends_more r s t one.extends other.extends;
  known = other.known ∙ one.known;
  sound = other.sound;
}

-- a point is found to which a return is carried along one of its edges
module _ (flow : Flow) (shape : HasShape flow) (s t : Search) (sound : AreSound flow s.found.items s.known.items) (q : ℕ) (finds : Finds flow s t q) where
  pub finds_carried : (i : ℕ) → IsCarriedBy flow s.found.items s.known.items q i → FindsMore flow s t
  finds_carried i by = record {
    listed = finds.listed;
    extends = finds.extends;
    known = finds.known;
    sound = sound_now flow s t q by.0.point finds sound (λ p tells. carried_sound p flow tells shape s.found.items s.known.items sound q i by.0 by.2 (sound.points p tells (edge_at flow i).to by.1));
  }

-- it is carried so where more is found
pub carried_more : (flow : Flow) (s t : Search) (q i : ℕ) → FindsMore flow s t → IsCarriedBy flow s.found.items s.known.items q i → IsCarriedBy flow t.found.items t.known.items q i
carried_more flow s t q i more by = (by.0, more.extends.found (edge_at flow i).to by.1, subst (λ (known : List Bool). carries flow known q (edge_at flow i).kind ≡ true) (sym more.known) by.2)

-- what leads somewhere, by its number
abbrev pub lead_at : List Lead → ℕ → Lead
lead_at leads k = get_or leads k (Call 0)

pub lead_of : (leads : List Lead) (l : Lead) → Contains leads l → (k : ℕ) × (k < length leads) × (lead_at leads k ≡ l)
lead_of leads l (k, inside, is) = (k, inside, get_or_default leads k (Call 0) l inside ∙ is)

-- at the end of a walk all is passed
pub all_passed : (next : Option ℕ) → ((k : ℕ) → next ≡ Some k → ⊥) → (j : ℕ) → IsPassed next j
all_passed None never j = tt
all_passed (Some k) never j = absurd (never k refl)

module _ (flow : Flow) (leads : List Lead) (before s : Search) (x : ℕ) (next : Option ℕ) where
  -- the points of those edges to x are found that the walk has passed, as far as they carry a return
  pub record AlongFound : Type 0 where
    pub more : FindsMore flow before s
    pub stands : IsCursor (map (key_of flow) leads) x next
    pub along : (k q i : ℕ) → k < length leads → lead_at leads k ≡ Edge q i → (edge_at flow i).to ≡ x → IsPassed next k → carries flow before.known.items q (edge_at flow i).kind ≡ true → is_set s.found.items q ≡ true

  -- those calls of the entry x are found that the walk has passed, as far as a return is carried to them
  pub record CallsFound : Type 0 where
    pub more : FindsMore flow before s
    pub stands : IsCursor (map (key_of flow) leads) x next
    pub calls : (k q i : ℕ) → k < length leads → lead_at leads k ≡ Call q → exit_at flow q ≡ Calls x → IsPassed next k → IsCarriedBy flow before.found.items before.known.items q i → is_set s.found.items q ≡ true

module _ (flow : Flow) (leads : List Lead) (x : ℕ) where
  abbrev keys : List (Option ℕ)
  keys = map (key_of flow) leads

  pub in_leads : (k : ℕ) → k < length keys → k < length leads
  in_leads k inside = omega (arith, inside, length-map leads (key_of flow))

  pub in_keys : (k : ℕ) → k < length leads → k < length keys
  in_keys k inside = omega (arith, inside, length-map leads (key_of flow))

  pub edge_key : (k q i : ℕ) → k < length leads → lead_at leads k ≡ Edge q i → (edge_at flow i).to ≡ x → get_or keys k None ≡ Some x
  edge_key k q i inside at to = key_at (key_of flow) leads k (Call 0) inside ∙ (ap (key_of flow) at ∙ ap Some to)

  pub call_key : (k q : ℕ) → k < length leads → lead_at leads k ≡ Call q → exit_at flow q ≡ Calls x → get_or keys k None ≡ Some x
  call_key k q inside at is = key_at (key_of flow) leads k (Call 0) inside ∙ (ap (key_of flow) at ∙ ap called is)

  -- where an edge of the chain leads
  pub edge_leads : (k q i : ℕ) → k < length leads → get_or keys k None ≡ Some x → lead_at leads k ≡ Edge q i → (edge_at flow i).to ≡ x
  edge_leads k q i inside is at =
      let a : get_or keys k None ≡ Some (edge_at flow i).to = key_at (key_of flow) leads k (Call 0) inside ∙ ap (key_of flow) at in
      let z : Some (edge_at flow i).to ≡ Some x = sym a ∙ is in
      cc

  module _ (s : Search) (next : Option ℕ) (listed : AreListed flow s) (sound : AreSound flow s.found.items s.known.items) (last : IsLastBelow keys x (length keys) next) where
    pub along_first : AlongFound flow leads s s x next
    along_first = record {
      more = finds_nothing flow s listed sound;
      stands = cursor_first keys x next last;
      along = λ k q i inside at to passed h. absurd (none_passed keys x next last k (in_keys k inside) (edge_key k q i inside at to) passed);
    }

    pub calls_first : CallsFound flow leads s s x next
    calls_first = record {
      more = finds_nothing flow s listed sound;
      stands = cursor_first keys x next last;
      calls = λ k q i inside at is passed by. absurd (none_passed keys x next last k (in_keys k inside) (call_key k q inside at is) passed);
    }

  module _ (before s t : Search) (k : ℕ) (next : Option ℕ) (last : IsLastBelow keys x k next) (more : FindsMore flow s t) where
    pub along_next : AlongFound flow leads before s x (Some k) → ((q i : ℕ) → lead_at leads k ≡ Edge q i → carries flow s.known.items q (edge_at flow i).kind ≡ true → is_set t.found.items q ≡ true) → AlongFound flow leads before t x next
    along_next so_far here = record {
      more = finds_more flow before s t so_far.more more;
      stands = cursor_next keys x k next so_far.stands.0 last;
      along = λ j q i inside at to passed h. elim (passed_next keys x k next last j (edge_key j q i inside at to) passed) [
        | inl after ↦ more.extends.found q (so_far.along j q i inside at to after h)
        | inr same ↦ here q i (subst (λ (n : ℕ). lead_at leads n ≡ Edge q i) same at) (subst (λ (known : List Bool). carries flow known q (edge_at flow i).kind ≡ true) (sym so_far.more.known) h)
      ];
    }

    pub calls_next : CallsFound flow leads before s x (Some k) → ((q i : ℕ) → lead_at leads k ≡ Call q → IsCarriedBy flow s.found.items s.known.items q i → is_set t.found.items q ≡ true) → CallsFound flow leads before t x next
    calls_next so_far here = record {
      more = finds_more flow before s t so_far.more more;
      stands = cursor_next keys x k next so_far.stands.0 last;
      calls = λ j q i inside at is passed by. elim (passed_next keys x k next last j (call_key j q inside at is) passed) [
        | inl after ↦ more.extends.found q (so_far.calls j q i inside at is after by)
        | inr same ↦ here q i (subst (λ (n : ℕ). lead_at leads n ≡ Call q) same at) (carried_more flow before s q i so_far.more by)
      ];
    }
