-- Entries are listed for the points at which control stands that comes to them, start by start.
use Rattle.std.proofs.Common.{◌≡◌, ◌≢◌, ℕ, ◌+◌, ◌-◌, ◌<◌, ◌≤◌, ◌⊎◌, ◌||◌, inl, inr, true, false, List, Option, Some, None, Contains, map, length, replicate, get_or, set, refl, sym, ap, ◌∙◌, subst, arith, length-set, get_or-set_same, get_or-set_other}
use Rattle.std.proofs.lemmas.Bool.{cases_Bool, cases_eq, cases_lt, false≢true}
use Rattle.std.specs.Prelude.{is_none}
use Rattle.std.proofs.lemmas.List.{get_or-map, get_or-replicate, get_or_append_left, get_or-append_right, get_or_default, get_or_past, length-append, length-map, length-replicate}
use Rattle.ot_base.specs.declared.place.Place.{Place}
use Rattle.ot_base.specs.Places.{same_place}
use Rattle.elf_objects.specs.Elf.{Elf}
use Rattle.symbols_relocs.specs.declared.function.Function.{Function}
use Rattle.symbols_relocs.specs.Lists.{function, no_function, AreFunctions}
use Rattle.unwinding_law.proofs.Lists as lists
use Rattle.table_law.proofs.Equal.{same_place_is}
use Rattle.table_law.proofs.Lists.{some_is}
use Rattle.flow_defs.specs.Coded.{Coded}
use Rattle.flow_defs.specs.Arrival.{arrive}
use Rattle.special_sections.specs.declared.entries.AltEntry.{AltEntry}
use Rattle.alternatives.specs.declared.point.Point.{Point}
use Rattle.alternatives.specs.Originals as alternatives
use Rattle.alternatives.specs.Originals.{entry_at}
use Rattle.alternatives.proofs.Opened.{counts_inside, plain_or_replaced}
use Rattle.flow_defs.specs.Code.{alternatives_of, number_of, plain_point, point_at, texts_of}
use Rattle.flow_defs.specs.Owners.{is_entry, owner_of_point}
use Rattle.object_law.proofs.Numbers.{numbered}
use Rattle.object_law.proofs.Owners.{from_map}
use Rattle.object_points.specs.Places.{is_among}
use Rattle.object_points.proofs.Points.{numbered_point}
use Rattle.object_points.proofs.Starts.{no_entry, no_other_start}
use Rattle.point_edges.specs.Entered.{IsEnteredAt}
use Rattle.control_flow.specs.Entering.{nowhere, start_at, starts_of, AreListedTo, AreRight}
use Rattle.control_flow.specs.Listed.{AreEntered, count_of}
use Rattle.control_flow.specs.NamedAt.{IsNamedAt}
use Rattle.point_edges.proofs.Standing.{came, entry_listed_at, first_place, own_number, plain_is, plain_place}

-- ---- an entry for some points
-- it is listed for the first n of them, and the rest is as before
pub record IsListedFor (old entered : List (Option ℕ)) (stands : List ℕ) (entry n : ℕ) : Type 0 where
  pub long : length entered ≡ length old
  pub listed : (k : ℕ) → k < n → get_or entered (get_or stands k 0) None ≡ Some entry
  pub kept : (q : ℕ) → (get_or entered q None ≡ get_or old q None) ⊎ (Contains stands q × (get_or entered q None ≡ Some entry))

pub listed_for_none : (old : List (Option ℕ)) (stands : List ℕ) (entry : ℕ) → IsListedFor old old stands entry 0
listed_for_none old stands entry = record { long = refl; listed = λ k l. absurd (omega (arith, l)); kept = λ q. inl refl }

module _ (old entered : List (Option ℕ)) (stands : List ℕ) (entry n : ℕ) (inside : n < length stands) (known : get_or stands n 0 < length old) (so_far : IsListedFor old entered stands entry n) where
  abbrev more : List (Option ℕ)
  more = set entered (get_or stands n 0) (Some entry)

  here : get_or more (get_or stands n 0) None ≡ Some entry
  here = get_or-set_same entered (get_or stands n 0) (Some entry) None (omega (arith, known, so_far.long))

  before : (k : ℕ) → k < n + 1 → (get_or stands k 0 ≢ get_or stands n 0) → k < n
  before k l other = elim (cases_eq k n) [
    | inl same ↦ absurd (other (ap (λ (j : ℕ). get_or stands j 0) same))
    | inr less ↦ omega (arith, l, less)
  ]

  pub listed_for_more : IsListedFor old more stands entry (n + 1)
  listed_for_more = record {
    long = length-set entered (get_or stands n 0) (Some entry) ∙ so_far.long;
    listed = λ k l. elim (cases_eq (get_or stands k 0) (get_or stands n 0)) [
      | inl same ↦ subst (λ (q : ℕ). get_or more q None ≡ Some entry) (sym same) here
      | inr other ↦ get_or-set_other entered (get_or stands n 0) (get_or stands k 0) (Some entry) None other ∙ so_far.listed k (before k l other)
    ];
    kept = λ q. elim (cases_eq q (get_or stands n 0)) [
      | inl same ↦ inr ((n, inside, get_or_default stands n q 0 inside ∙ sym same), subst (λ (r : ℕ). get_or more r None ≡ Some entry) (sym same) here)
      | inr other ↦ elim (so_far.kept q) [
        | inl was ↦ inl (get_or-set_other entered (get_or stands n 0) q (Some entry) None other ∙ was)
        | inr listed ↦ inr (listed.0, get_or-set_other entered (get_or stands n 0) q (Some entry) None other ∙ listed.1)
      ]
    ];
  }

pub listed_for_all : (old entered : List (Option ℕ)) (stands : List ℕ) (entry n : ℕ) → length stands ≤ n → IsListedFor old entered stands entry n → (q : ℕ) → Contains stands q → get_or entered q None ≡ Some entry
listed_for_all old entered stands entry n past all q (k, inside, is) =
    subst (λ (r : ℕ). get_or entered r None ≡ Some entry) (get_or_default stands k 0 q inside ∙ is) (all.listed k (omega (arith, inside, past)))

-- ---- the entry at a place
module _ (o : Coded) where
  same_number : (q e f : ℕ) → IsNamedAt o e q → IsNamedAt o f q → (point_at o e).place ≡ (point_at o f).place → e ≡ f
  same_number q e f one other same =
      some_is (sym one.number ∙ ap (λ (p : Place). number_of o (plain_point p)) same ∙ other.number)

  -- calls name a point by one number alone
  pub one_name : (q e f : ℕ) → IsNamedAt o e q → IsNamedAt o f q → e ≡ f
  one_name q e f one other = elim (cases_eq (point_at o q).variant 0) [
    | inl plain ↦ same_number q e f one other (sym (plain_place o (point_at o e).place q plain one.stands) ∙ plain_place o (point_at o f).place q plain other.stands)
    | inr replaced ↦ same_number q e f one other (sym (first_place o (point_at o e).place q replaced one.stands).1 ∙ (first_place o (point_at o f).place q replaced other.stands).1)
  ]

  -- the plain point at a place is its own, where there is one
  here_is : (start : Place) (entry e q : ℕ) → number_of o (plain_point start) ≡ Some entry → IsNamedAt o e q → (point_at o e).place ≡ start → entry ≡ e
  here_is start entry e q number at same = some_is (sym number ∙ ap (λ (p : Place). number_of o (plain_point p)) (sym same) ∙ at.number)

  -- calls name none by the plain point at a place that they don't name, or where there is none
  pub not_called : (start : Place) (entry : ℕ) → number_of o (plain_point start) ≡ Some entry → (is_entry o.elf start || is_none (owner_of_point o (point_at o entry))) ≡ false → (q e : ℕ) → IsNamedAt o e q → (point_at o e).place ≡ start → ⊥
  not_called start entry number none q e at same =
      false≢true
      (sym none
      ∙ ap (λ (k : ℕ). is_entry o.elf start || is_none (owner_of_point o (point_at o k))) (here_is start entry e q number at same)
      ∙ ap (λ (p : Place). is_entry o.elf p || is_none (owner_of_point o (point_at o e))) (sym same)
      ∙ at.called)

  pub no_number_starts : (start : Place) → number_of o (plain_point start) ≡ None → (q e : ℕ) → IsNamedAt o e q → (point_at o e).place ≡ start → ⊥
  no_number_starts start none q e at same =
      let some : None ≡ Some e = sym none ∙ ap (λ (p : Place). number_of o (plain_point p)) (sym same) ∙ at.number in
      cc

  -- a plain point is listed for the points at which control stands that comes to its place
  module _ (old new : List (Option ℕ)) (stands : List ℕ) (start : Place) (entry : ℕ) (right : AreRight o old) (is : (is_entry o.elf start || is_none (owner_of_point o (point_at o entry))) ≡ true) (number : number_of o (plain_point start) ≡ Some entry) (comes : stands ≡ arrive o start) where
    own_place : (point_at o entry).place ≡ start
    own_place = ap (λ (p : Point). p.place) (numbered o (plain_point start) entry number).1

    there : (q : ℕ) → Contains stands q → IsNamedAt o entry q
    there q c = record {
      number = ap (λ (p : Place). number_of o (plain_point p)) own_place ∙ number;
      stands = subst (λ (p : Place). Contains (arrive o p) q) (sym own_place) (subst (λ (xs : List ℕ). Contains xs q) comes c);
      called = ap (λ (p : Place). is_entry o.elf p || is_none (owner_of_point o (point_at o entry))) own_place ∙ is;
    }

    module _ (long : length new ≡ length old) (kept : (q : ℕ) → (get_or new q None ≡ get_or old q None) ⊎ (Contains stands q × (get_or new q None ≡ Some entry))) where
      pub right_more : AreRight o new
      right_more = record {
        long = long ∙ right.long;
        right = λ q e h. elim (kept q) [
          | inl same ↦ right.right q e (sym same ∙ h)
          | inr one ↦ subst (λ (f : ℕ). IsNamedAt o f q) (some_is (sym one.1 ∙ h)) (there q one.0)
        ];
      }

      pub kept_more : (q e : ℕ) → get_or old q None ≡ Some e → get_or new q None ≡ Some e
      kept_more q e h = elim (kept q) [
        | inl same ↦ same ∙ h
        | inr one ↦ one.1 ∙ ap Some (one_name q entry e (there q one.0) (right.right q e h))
      ]

    pub listed_more : ((q : ℕ) → Contains stands q → get_or new q None ≡ Some entry) → (q e : ℕ) → IsNamedAt o e q → (point_at o e).place ≡ start → get_or new q None ≡ Some e
    listed_more listed q e at same =
        listed q (subst (λ (xs : List ℕ). Contains xs q) (sym comes) (subst (λ (p : Place). Contains (arrive o p) q) same at.stands))
        ∙ sym number ∙ ap (λ (p : Place). number_of o (plain_point p)) (sym same) ∙ at.number

-- ---- all starts
none_there : (n q : ℕ) → get_or (replicate {A = Option ℕ} n None) q None ≡ None
none_there n q = elim (cases_lt q n) [
  | inl inside ↦ get_or-replicate n q None None inside
  | inr past ↦ get_or_past (replicate {A = Option ℕ} n None) q None (omega (arith, past, length-replicate {A = Option ℕ} n None))
]

pub none_listed : (o : Coded) (starts : List Place) (entered : List (Option ℕ)) (n : ℕ) → n ≡ count_of o → entered ≡ replicate n None → AreListedTo o starts entered 0
none_listed o starts entered n count is = record {
  are = record {
    long = ap length is ∙ length-replicate n None ∙ count;
    right = λ q e h. absurd (let none : None ≡ Some e = sym (ap (λ (xs : List (Option ℕ)). get_or xs q None) is ∙ none_there n q) ∙ h in let z : ⊥ = cc in z);
  };
  listed = λ k q e l. absurd (omega (arith, l));
}

pub listed_to_more : (o : Coded) (starts : List Place) (old new : List (Option ℕ)) (n : ℕ) → AreListedTo o starts old n → AreRight o new → ((q e : ℕ) → get_or old q None ≡ Some e → get_or new q None ≡ Some e)
    → ((q e : ℕ) → IsNamedAt o e q → (point_at o e).place ≡ start_at starts n → get_or new q None ≡ Some e) → AreListedTo o starts new (n + 1)
listed_to_more o starts old new n so_far right kept listed = record {
  are = right;
  listed = λ k q e l at same. elim (cases_lt k n) [
    | inl less ↦ kept q e (so_far.listed k q e less at same)
    | inr more ↦
        let is : k ≡ n = omega (arith, l, more) in
        listed q e at (same ∙ ap (start_at starts) is)
  ];
}

-- an entry is where a function starts
entry_starts : (o : Elf) (fs : List Function) (place : Place) → AreFunctions o fs → is_entry o place ≡ true → (k : ℕ) × (k < length fs) × (place ≡ (function fs k).start)
entry_starts o fs place all entered = elim (cases_Bool (is_among (map (λ (f : Function). f.start) fs) place)) [
  | inl among ↦
      let start = lists.find_one (same_place place) (map (λ (f : Function). f.start) fs) among in
      let f = from_map (λ (g : Function). g.start) fs start.0 start.1 in
      let at = f.1 in
      (at.0, at.1, same_place_is place start.0 start.2 ∙ sym f.2 ∙ ap (λ (g : Function). g.start) (sym (get_or_default fs at.0 no_function f.0 at.1 ∙ at.2)))
  | inr other ↦ absurd (false≢true (no_entry o place (no_other_start o fs place all other) ∙ entered))
]

-- it is listed for each point that calls name by the plain point where a function starts, or at an original
module _ (o : Coded) (fs : List Function) (entered : List (Option ℕ)) (n : ℕ) (all : AreFunctions o.elf fs) (past : length (starts_of fs (alternatives_of o)) ≤ n) (so_far : AreListedTo o (starts_of fs (alternatives_of o)) entered n) where
  abbrev at_functions : List Place
  at_functions = map (λ (f : Function). f.start) fs

  abbrev at_sites : List Place
  at_sites = map (λ (a : AltEntry). a.original) (alternatives_of o)

  long : length at_functions + length at_sites ≤ n
  long = omega (arith, past, length-append at_functions at_sites)

  at_function : (k : ℕ) → k < length fs → start_at (starts_of fs (alternatives_of o)) k ≡ (function fs k).start
  at_function k inside =
      get_or_append_left at_functions at_sites nowhere k (omega (arith, inside, length-map fs (λ (f : Function). f.start)))
      ∙ get_or-map (λ (f : Function). f.start) fs k no_function nowhere inside

  at_site : (k : ℕ) → k < length (alternatives_of o) → start_at (starts_of fs (alternatives_of o)) (length at_functions + k) ≡ (entry_at (alternatives_of o) k).original
  at_site k inside =
      get_or-append_right at_functions at_sites (length at_functions) (length at_functions + k) nowhere refl (omega arith)
      ∙ ap (λ i. get_or at_sites i nowhere) (let same : length at_functions + k - length at_functions ≡ k = omega arith in same)
      ∙ get_or-map (λ (a : AltEntry). a.original) (alternatives_of o) k alternatives.no_entry nowhere inside

  of_entry : (q e : ℕ) → IsEnteredAt o e q → IsNamedAt o e q
  of_entry q e at =
      let own = entry_listed_at o e at.listed in
      record { number = own.number; stands = at.stands; called = ap (λ b. b || is_none (owner_of_point o (point_at o e))) own.entered }

  of_other : (q e : ℕ) → q < count_of o → IsNamedAt o e q → q ≢ e → get_or entered q None ≡ Some e
  of_other q e l at other = elim (came o (point_at o e).place q at.stands) [
    | inl plain ↦ absurd (other (same_plain plain.0 plain.1))
    | inr first ↦
        so_far.listed (length at_functions + first.0) q e (omega (arith, long, first_inside first.0 first.1.0, length-map (alternatives_of o) (λ (a : AltEntry). a.original))) at (sym first.1.2 ∙ sym (at_site first.0 (first_inside first.0 first.1.0)))
  ]
    where
      same_plain : (point_at o q).variant ≡ 0 → (point_at o q).place ≡ (point_at o e).place → q ≡ e
      same_plain plain same = some_is (sym (own_number o q l) ∙ ap (number_of o) (plain_is (point_at o q) plain) ∙ ap (λ (p : Place). number_of o (plain_point p)) same ∙ at.number)

      first_inside : (k : ℕ) → (point_at o q).variant ≡ k + 1 → k < length (alternatives_of o)
      first_inside k variant = elim (plain_or_replaced (texts_of o) (alternatives_of o) (point_at o q) (numbered_point o q l)) [
        | inl (zero, some) ↦ absurd (omega (arith, variant, zero))
        | inr r ↦ omega (arith, counts_inside (alternatives_of o) r.k r.counts, variant, r.variant)
      ]

  pub all_listed : AreEntered o entered (count_of o)
  all_listed = record {
    long = so_far.are.long;
    entries = λ q e l at.
        let k = entry_starts o.elf fs (point_at o e).place all (entry_listed_at o e at.listed).entered in
        so_far.listed k.0 q e (omega (arith, long, k.1, length-map fs (λ (f : Function). f.start))) (of_entry q e at) (k.2 ∙ sym (at_function k.0 k.1));
    others = λ q e l at other. of_other q e l at other;
    right = λ q e l is. so_far.are.right q e is;
    known = λ q d l e is.
        let at = so_far.are.right q e (get_or_default entered q None d l ∙ is) in
        (numbered o (plain_point (point_at o e).place) e at.number).0;
  }
