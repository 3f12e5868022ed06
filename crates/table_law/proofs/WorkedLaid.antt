-- How the worked program is laid out, how control comes into its site, and which states it keeps.
use Rattle.std.proofs.Common.{◌≡◌, ◌≢◌, ℕ, zero, suc, ◌+◌, ◌<◌, ◌≤◌, Bool, true, false, ◌&&◌, if◌then◌else◌, List, [], ◌∷◌, Some, Contains, All, slice_index_or, nat_le, nat_lt, refl, sym, ap, ◌∙◌, subst, inl, inr, arith, lit<, lit≤, leb-true}
use Rattle.std.specs.Prelude.{◌==◌}
use Rattle.std.specs.List.{list_all}
use Rattle.std.proofs.lemmas.Bool.{and_parts, eq-eqb, eqb-true, lt-ltb}
use Rattle.ot_base.specs.declared.place.Place.{Place}
use Rattle.machine_defs.specs.declared.flow.Edge.{Edge}
use Rattle.machine_defs.specs.declared.flow.EdgeKind.TheVariants.{Next, Table, Fixup, Sibling}
use Rattle.state_defs.specs.declared.state.State.{State}
use Rattle.machine_defs.specs.Program.{TextSection, Site, below, in_site, entry_points, edge}
use Rattle.machine_defs.specs.IsProgram.{IsLaidOut}
use Rattle.machine_defs.specs.Kept.{Kept, AreKeptStates}
use Rattle.table_defs.specs.Enters.{EntersSites}
use Rattle.unwinding_law.specs.Worked.{site, worked, state_of}
use Rattle.unwinding_law.proofs.Elements.{each, none, one, two}
use Rattle.unwinding_law.proofs.Lists.{here, cases, nowhere, in_below}
use Rattle.unwinding_law.proofs.WorkedProgram.{arrives_at, along, never, no_state, hint_points}
use Rattle.unwinding_law.proofs.WorkedStates.{only_site, kept_state}
use Rattle.table_law.proofs.WorkedProgram.{in_text}

-- a test that all numbers below one pass
passes : (test : ℕ → Bool) (xs : List ℕ) → list_all test xs ≡ true → (q : ℕ) → Contains xs q → test q ≡ true
passes test [] h q c = nowhere q c
passes test (x ∷ xs) h q c = elim (cases x xs q c) [ inl e ↦ subst (λ (z : ℕ). test z ≡ true) e (and_parts (test x) (list_all test xs) h).0 | inr d ↦ passes test xs (and_parts (test x) (list_all test xs) h).1 q d ]

-- two instructions of one variant and section share no byte, and are one where they begin at one place
abbrev shares_none : ℕ → ℕ → Bool
shares_none q r =
    if worked.variant q == worked.variant r && ((worked.address q).sec == (worked.address r).sec && nat_lt (worked.address q).off (worked.address r).off)
    then nat_le ((worked.address q).off + (worked.insn q).len) (worked.address r).off else true

abbrev are_one : ℕ → ℕ → Bool
are_one q r =
    if worked.variant q == worked.variant r && ((worked.address q).sec == (worked.address r).sec && (worked.address q).off == (worked.address r).off)
    then q == r else true

all_pairs : (test : ℕ → ℕ → Bool) → list_all (λ q. list_all (test q) (below 11)) (below 11) ≡ true → (q r : ℕ) → q < 11 → r < 11 → test q r ≡ true
all_pairs test h q r a b = passes (test q) (below 11) (passes (λ q. list_all (test q) (below 11)) (below 11) h q (in_below 11 q a)) r (in_below 11 r b)

implied : (a b c d : Bool) → (if a && (b && c) then d else true) ≡ true → a ≡ true → b ≡ true → c ≡ true → d ≡ true
implied true true true d h e f g = h
implied false b c d h e f g = absurd (let k : ⊥ = cc in k)
implied true false c d h e f g = absurd (let k : ⊥ = cc in k)
implied true true false d h e f g = absurd (let k : ⊥ = cc in k)

in_order : (q r : ℕ) → q < 11 → r < 11 → worked.variant q ≡ worked.variant r → (worked.address q).sec ≡ (worked.address r).sec → (worked.address q).off < (worked.address r).off → (worked.address q).off + (worked.insn q).len ≤ (worked.address r).off
in_order q r a b e f l =
    leb-true ((worked.address q).off + (worked.insn q).len) (worked.address r).off
    (implied (worked.variant q == worked.variant r) ((worked.address q).sec == (worked.address r).sec) (nat_lt (worked.address q).off (worked.address r).off) (nat_le ((worked.address q).off + (worked.insn q).len) (worked.address r).off)
    (all_pairs shares_none refl q r a b) (eq-eqb _ _ e) (eq-eqb _ _ f) (lt-ltb _ _ l))

apart : (q r : ℕ) → q < 11 → r < 11 → worked.variant q ≡ worked.variant r → worked.address q ≡ worked.address r → q ≡ r
apart q r a b e f =
    eqb-true q r
    (implied (worked.variant q == worked.variant r) ((worked.address q).sec == (worked.address r).sec) ((worked.address q).off == (worked.address r).off) (q == r)
    (all_pairs are_one refl q r a b) (eq-eqb _ _ e) (eq-eqb _ _ (ap (λ (x : Place). x.sec) f)) (eq-eqb _ _ (ap (λ (x : Place). x.off) f)))

-- plain points run where they stand, the others in the site
plain : (q : ℕ) → worked.variant q ≡ 0 → worked.address q ≡ worked.place q
plain = each (λ q. worked.variant q ≡ 0 → worked.address q ≡ worked.place q) (λ _. refl) (λ _. refl) (λ _. refl) (λ _. refl) (λ _. refl) (λ _. refl) (λ _. refl) (λ _. refl) (λ _. refl) (λ e. absurd (omega arith)) (λ e. absurd (omega arith)) (λ q _. refl)

replaced : (q : ℕ) → worked.variant q ≢ 0 → in_site site (worked.address q) ≡ true
replaced = each (λ q. worked.variant q ≢ 0 → in_site site (worked.address q) ≡ true) (λ n. absurd (n refl)) (λ n. absurd (n refl)) (λ n. absurd (n refl)) (λ n. absurd (n refl)) (λ n. absurd (n refl)) (λ n. absurd (n refl)) (λ n. absurd (n refl)) (λ n. absurd (n refl)) (λ n. absurd (n refl)) (λ _. refl) (λ _. refl) (λ q n. absurd (n refl))

-- what runs in the site stays in it
stays : (q : ℕ) → in_site site (worked.address q) ≡ true → (worked.address q).off + (worked.insn q).len ≤ 5
stays = each (λ q. in_site site (worked.address q) ≡ true → (worked.address q).off + (worked.insn q).len ≤ 5) (λ _. lit≤ tt) never never never never never never never never (λ _. lit≤ tt) (λ _. lit≤ tt) (λ q. never)

-- so it is laid out
pub laid_out : IsLaidOut worked
laid_out = record {
  in_text = in_text;
  plain = λ q point e. plain q e;
  replaced = λ q point n. (site, here site [], replaced q n);
  in_sites = λ q s point c inside. subst (λ (x : Site). (worked.address q).off + (worked.insn q).len ≤ x.start.off + x.len) (sym (only_site s c)) (stays q (subst (λ (x : Site). in_site x (worked.address q) ≡ true) (only_site s c) inside));
  site_starts = λ s c. (0, lit< tt, refl, ap (λ (x : Site). x.start) (sym (only_site s c)));
  sites_apart = λ one other place c d a b. only_site one c ∙ sym (only_site other d);
  apart = λ q r a b e f. apart q r a b e f;
  in_order = λ q r a b e f l. in_order q r a b e f l;
  sections = λ i j d l m. ascend i j d l m;
  hint_points = hint_points;
}
  where
    ascend : (i j : ℕ) (d : TextSection) → i < j → j < 2 → (slice_index_or worked.texts i d).sec < (slice_index_or worked.texts j d).sec
    ascend zero zero d h k = absurd (omega arith)
    ascend zero (suc zero) d h k = lit< tt
    ascend zero (suc (suc j)) d h k = absurd (omega arith)
    ascend (suc i) zero d h k = absurd (omega arith)
    ascend (suc i) (suc zero) d h k = absurd (omega arith)
    ascend (suc i) (suc (suc j)) d h k = absurd (omega arith)

-- only an edge in the site leads past the site's start
abbrev IsWithin : ℕ → Edge → Type 0
IsWithin q e = in_site site (worked.address e.to) ≡ true → in_site site (worked.address q) ≡ true

stay : (q : ℕ) → All (IsWithin q) (worked.goes q)
stay = each (λ q. All (IsWithin q) (worked.goes q)) (one (IsWithin 0) (edge 1 Next) never) (one (IsWithin 1) (edge 2 Table) never) (two (IsWithin 2) (edge 3 Next) (edge 3 Fixup) never never) (one (IsWithin 3) (edge 4 Sibling) never) (one (IsWithin 4) (edge 5 Next) never) (one (IsWithin 5) (edge 6 Next) never) (none (IsWithin 6)) (none (IsWithin 7)) (none (IsWithin 8)) (one (IsWithin 9) (edge 10 Next) (λ _. refl)) (one (IsWithin 10) (edge 1 Next) never) (λ q. none (IsWithin (suc (suc (suc (suc (suc (suc (suc (suc (suc (suc (suc q)))))))))))))

-- control comes to the start of the site
pub enters : EntersSites worked
enters = record {
  edges = λ q r kind s point c listed inside. inl (subst (λ (x : Site). in_site x (worked.address q) ≡ true) (sym (only_site s listed)) (along (IsWithin q) q (stay q) (edge r kind) c (subst (λ (x : Site). in_site x (worked.address r) ≡ true) (only_site s listed) inside)));
  entries = λ entry q s c d listed inside. elim (cases 0 (4 ∷ []) entry c) [
    | inl e ↦ (0, record { point = lit< tt; plain = refl; place = ap (λ (x : Site). x.start) (sym (only_site s listed)) }, subst (λ (x : ℕ). Contains (entry_points worked x) 0) e (here 0 (9 ∷ [])))
    | inr k ↦ elim (cases 4 [] entry k) [
      | inl e ↦ never (of_g q (subst (λ (x : ℕ). Contains (entry_points worked x) q) (sym e) d) (subst (λ (x : Site). in_site x (worked.address q) ≡ true) (only_site s listed) inside))
      | inr z ↦ nowhere entry z
    ]
  ];
  arrivals = λ q point v. let a = arrives_at q point v in (a.itself, λ r c. (a.each_there r c).address);
}
  where
    of_g : (q : ℕ) → Contains (4 ∷ []) q → in_site site (worked.address q) ≡ true → false ≡ true
    of_g q c h = elim (cases 4 [] q c) [ inl e ↦ subst (λ (x : ℕ). in_site site (worked.address x) ≡ true) (sym e) h | inr z ↦ nowhere q z ]

-- its states are those that are kept
kept : (q : ℕ) (s : State) → state_of q ≡ Some s → Kept worked q s
kept = each (λ q. (s : State) → state_of q ≡ Some s → Kept worked q s) (λ s e. (0, e)) (λ s e. (1, e)) (λ s e. (2, e)) (λ s e. (3, e)) (λ s e. (0, e)) (λ s e. (1, e)) (λ s e. (2, e)) (λ s e. (0, e)) (no_state _) (λ s e. (0, e)) (λ s e. (1, e)) (λ q. no_state _)

pub states : AreKeptStates worked state_of
states q s = (kept q s, kept_state q s)
