-- By what number a call names the points at which control stands that it brings.
use Rattle.std.proofs.Common.{◌≡◌, ℕ, ◌<◌, ◌||◌, not, if◌then◌else◌, Bool, true, false, inl, inr, List, Option, Some, None, Contains, get_or, refl, sym, ap, ◌∙◌, subst}
use Rattle.std.specs.Prelude.{◌↔◌, is_none, unwrap_or}
use Rattle.std.proofs.lemmas.Bool.{cases_Bool, cases_eq, false≢true}
use Rattle.alternatives.specs.declared.point.Point.{Point}
use Rattle.flow_defs.specs.Coded.{Coded}
use Rattle.flow_defs.specs.Arrival.{arrive}
use Rattle.flow_defs.specs.Code.{number_of, plain_point, point_at}
use Rattle.flow_defs.specs.Owners.{is_entry, owner_of_point}
use Rattle.flow_defs.specs.Program.{entries_of}
use Rattle.object_law.proofs.Numbers.{numbered}
use Rattle.object_law.proofs.Owners.{arriving_owner, entry_is}
use Rattle.point_edges.specs.Entered.{IsEnteredAt}
use Rattle.control_flow.specs.Listed.{AreEntered, count_of}
use Rattle.control_flow.specs.NamedAt.{IsNamedAt}
use Rattle.point_edges.proofs.Standing.{entry_listed_at, is_entered, own_number, plain_is, plain_stands}
use Rattle.control_flow.proofs.Listing.{one_name}

-- control that comes to an entry stands at its own point, among others
entry_stands : (o : Coded) (entry : ℕ) → Contains (entries_of o) entry → IsEnteredAt o entry entry
entry_stands o entry listed =
    let here = entry_listed_at o entry listed in
    let known = numbered o (plain_point (point_at o entry).place) entry here.number in
    record { listed = listed; stands = plain_stands o entry known.0 (ap (λ (p : Point). p.variant) known.1) }

-- what is entered has an owner
entered_owned : (o : Coded) (entry q : ℕ) → IsEnteredAt o entry q → owner_of_point o (point_at o q) ≡ None → ⊥
entered_owned o entry q at none =
    let own = entry_is o.elf (point_at o entry).place (entry_listed_at o entry at.listed).entered in
    let some : owner_of_point o (point_at o q) ≡ Some own.function = arriving_owner o (point_at o entry).place q at.stands ∙ own.owner in
    cc

or_true : (b : Bool) → (b || true) ≡ true
or_true true = refl
or_true false = refl

-- a point that an entry names is entered, and one that another plain point names isn't
named_entered : (o : Coded) (entry q : ℕ) → IsNamedAt o entry q → (is_none (owner_of_point o (point_at o q)) ≡ false) → IsEnteredAt o entry q
named_entered o entry q at owned = elim (cases_Bool (is_entry o.elf (point_at o entry).place)) [
  | inl is ↦ is_entered o (point_at o entry).place q entry at.stands is at.number
  | inr other ↦
      let none : is_none (owner_of_point o (point_at o entry)) ≡ true = sym (ap (λ b. b || is_none (owner_of_point o (point_at o entry))) other) ∙ at.called in
      let known = numbered o (plain_point (point_at o entry).place) entry at.number in
      let own = plain_stands o entry known.0 (ap (λ (p : Point). p.variant) known.1) in
      let same : owner_of_point o (point_at o q) ≡ owner_of_point o (point_at o entry) = arriving_owner o (point_at o entry).place q at.stands ∙ sym (arriving_owner o (point_at o entry).place entry own) in
      absurd (false≢true (sym owned ∙ ap (λ (x : Option ℕ). is_none x) same ∙ none))
]

module _ (o : Coded) (entered : List (Option ℕ)) (are : AreEntered o entered (count_of o)) (entry q : ℕ) (here : q < count_of o) where
  abbrev named : Option ℕ → ℕ
  named found = unwrap_or found q

  -- an entry
  pub entry_named : Contains (entries_of o) entry → Contains (arrive o (point_at o entry).place) q ↔ (named (get_or entered q None) ≡ entry)
  entry_named listed = (λ c. ap named (are.entries q entry here (record { listed = listed; stands = c })), back (get_or entered q None) refl)
    where
      back : (found : Option ℕ) → get_or entered q None ≡ found → named found ≡ entry → Contains (arrive o (point_at o entry).place) q
      back (Some e) is same = (are.right q entry here (is ∙ ap Some same)).stands
      back None is same = subst (Contains (arrive o (point_at o entry).place)) (sym same) (entry_stands o entry listed).stands

  -- and what is none: a plain point without owner
  pub open_named : entry < count_of o → (point_at o entry).variant ≡ 0 → owner_of_point o (point_at o entry) ≡ None
      → Contains (arrive o (point_at o entry).place) q ↔ (named (get_or entered q None) ≡ entry)
  open_named inside plain none = (λ c. there (at c) (get_or entered q None) refl, back (get_or entered q None) refl)
    where
      at : Contains (arrive o (point_at o entry).place) q → IsNamedAt o entry q
      at c = record {
        number = ap (number_of o) (sym (plain_is (point_at o entry) plain)) ∙ own_number o entry inside;
        stands = c;
        called = ap (λ (x : Option ℕ). is_entry o.elf (point_at o entry).place || is_none x) none ∙ or_true (is_entry o.elf (point_at o entry).place);
      }

      there : IsNamedAt o entry q → (found : Option ℕ) → get_or entered q None ≡ found → named found ≡ entry
      there is (Some e) own = one_name o q e entry (are.right q e here own) is
      there is None own = elim (cases_eq q entry) [
        | inl same ↦ same
        | inr other ↦ absurd (let bad : None ≡ Some entry = sym own ∙ are.others q entry here is other in let k : ⊥ = cc in k)
      ]

      back : (found : Option ℕ) → get_or entered q None ≡ found → named found ≡ entry → Contains (arrive o (point_at o entry).place) q
      back (Some e) is same = (are.right q entry here (is ∙ ap Some same)).stands
      back None is same = subst (Contains (arrive o (point_at o entry).place)) (sym same) (plain_stands o entry inside plain)

  -- which of them control that comes to an entry may stand at
  pub entered_owned_by : (owned : Bool) → is_none (owner_of_point o (point_at o q)) ≡ not owned → (e : ℕ) → IsEnteredAt o e q ↔ ((if owned then get_or entered q None else None) ≡ Some e)
  entered_owned_by true own e = (λ at. are.entries q e here at, λ is. named_entered o e q (are.right q e here is) own)
  entered_owned_by false own e = (λ at. absurd (entered_owned o e q at (is_no_owner (owner_of_point o (point_at o q)) own)), λ is. absurd (let k : ⊥ = cc in k))
    where
      is_no_owner : (x : Option ℕ) → is_none x ≡ true → x ≡ None
      is_no_owner None h = refl
      is_no_owner (Some f) h = absurd (false≢true h)
