-- Lone jumps through one table go alike.
use Rattle.std.proofs.Common.{◌≡◌, ℕ, ℤ, ◌⊎◌, inl, inr, Bool, true, false, cond, ◌&&◌, ◌||◌, not, List, [], ◌∷◌, ◌++◌, All, Option, Some, None, find, refl, sym, ap, ◌∙◌, subst}
use Rattle.std.specs.Prelude.{is_none, is_some, take_while}
use Rattle.std.specs.List.{flat_map, list_any}
use Rattle.std.proofs.lemmas.Bool.{eqb-true, false≢true}
use Rattle.std.proofs.Math.Bool.{and-false}
use Rattle.std.proofs.lemmas.List.{append-nil}
use Rattle.std.proofs.lemmas.List.Sums.{take_while-cons}
use Rattle.std.proofs.lemmas.List.Elements.{All-append, All-cons, All-nil}
use Rattle.ot_base.specs.declared.place.Place.{Place}
use Rattle.ot_base.specs.Places.{same_place}
use Rattle.operation_defs.specs.declared.insn.Insn.{Insn}
use Rattle.operation_defs.specs.declared.op.Op.{Op}
use Rattle.operation_defs.specs.declared.op.Op.TheVariants as ops
use Rattle.machine_defs.specs.Program.{Site, edge, in_site}
use Rattle.machine_defs.specs.declared.flow.Edge.{Edge}
use Rattle.machine_defs.specs.declared.flow.EdgeKind.TheVariants.{Fixup, Next, Table, Taken}
use Rattle.machine_defs.specs.declared.flow.Marks.{Marks}
use Rattle.machine_defs.specs.declared.flow.Role.TheVariants.{Plain}
use Rattle.elf_objects.specs.Elf.{Elf}
use Rattle.symbols_relocs.specs.NamedPlaces.{is_relocated}
use Rattle.symbols_relocs.specs.Parts.{owner_at}
use Rattle.alternatives.specs.declared.point.Point.{Point}
use Rattle.alternatives.specs.declared.texts.SectionText.{SectionText}
use Rattle.special_sections.specs.declared.entries.AltEntry.{AltEntry}
use Rattle.flow_defs.specs.Tables.{entries_by, entries_of, same_owner}
use Rattle.flow_defs.specs.Coded.{Coded}
use Rattle.flow_defs.specs.declared.destination.Way.TheVariants.{Along}
use Rattle.flow_defs.specs.declared.destination.Destination.{Destination}
use Rattle.flow_defs.specs.declared.destination.Destination.TheVariants.{ToIndirectThunk}
use Rattle.flow_defs.specs.Arrival.{after, arrive, insn_of_object, is_at_end, is_dead_end, is_padding}
use Rattle.flow_defs.specs.Code.{alternatives_of, is_plain, texts_of}
use Rattle.flow_defs.specs.Edges.{branch_edges, branch_edges_by, edges_to, ends_flow, fixups, goes, goes_on, is_some_place, jump_edges, listed_edges, next_edges, static_targets, table_edges, way_edges}
use Rattle.flow_defs.specs.Marks.{branch_places, calls_into_function, has_bad_target, has_relocated_offset, has_stack_offset, has_target_in_site, is_bad_branch, is_bad_by, is_bad_jump, is_bad_listed, is_inner_call_by, jump_places, listed_places, marks_of, places_by, target_places}
use Rattle.flow_defs.specs.Owners.{is_unchecked_point, owner_of_point}
use Rattle.flow_defs.specs.Roles.{jump_by_table, jump_role, returns_through, role_by, role_of, role_through, table_of_point}
use Rattle.flow_defs.specs.Sites.{enters_site, is_into_site, is_original_of, is_past_start, site_holding, sites_of}
use Rattle.flow_defs.specs.Targets.{destination_of}
use Rattle.point_edges.specs.Tables.{table_start_of}
use Rattle.control_flow.proofs.Undirected.{by_thunk_through, is_by_memory, memory_through}
use Rattle.control_flow.specs.Lone.{GoAlike, is_in_open_code, is_indirect_jump, is_indirect_thunk, is_lone_jump, is_unlisted}

bool_cases : (b : Bool) → (b ≡ true) ⊎ (b ≡ false)
bool_cases true = inl refl
bool_cases false = inr refl

both : (a b : Bool) → (a && b) ≡ true → (a ≡ true) × (b ≡ true)
both true b h = (refl, h)
both false b h = absurd (false≢true h)

not_true : (a : Bool) → not a ≡ true → a ≡ false
not_true true h = absurd (false≢true h)
not_true false h = refl

and_true : (a : Bool) → (a && true) ≡ a
and_true true = refl
and_true false = refl

none_is : {X : Type 0} (x : Option X) → is_none x ≡ true → x ≡ None
none_is None h = refl
none_is (Some x) h = absurd (false≢true h)

no_place : (places : List Place) → is_some_place places ≡ false → places ≡ []
no_place [] none = refl
no_place (place ∷ places) some = absurd (false≢true (sym some))

flat_map_same : {X Y : Type 0} (f g : X → List Y) → ((x : X) → f x ≡ g x) → (xs : List X) → flat_map f xs ≡ flat_map g xs
flat_map_same f g same [] = refl
flat_map_same f g same (x ∷ xs) = ap (λ ys. ys ++ flat_map f xs) (same x) ∙ ap (λ ys. g x ++ ys) (flat_map_same f g same xs)

any_same : {X : Type 0} (f g : X → Bool) → ((x : X) → f x ≡ g x) → (xs : List X) → list_any f xs ≡ list_any g xs
any_same f g same [] = refl
any_same f g same (x ∷ xs) = ap (λ b. b || list_any f xs) (same x) ∙ ap (λ b. g x || b) (any_same f g same xs)

-- where no item passes a test, none that another test finds does
none_passes : {X : Type 0} (test other : X → Bool) (xs : List X) (x : X) → find test xs ≡ None → find other xs ≡ Some x → test x ≡ false
none_passes test other [] x none some = cc
none_passes test other (y ∷ ys) x none some = elim (bool_cases (test y)) [
  | inl is ↦ let found : Some y ≡ None = sym (ap (λ b. cond b (Some y) (find test ys)) is) ∙ none in cc
  | inr isnt ↦ elim (bool_cases (other y)) [
    | inl at ↦
        let found : Some y ≡ Some x = sym (ap (λ b. cond b (Some y) (find other ys)) at) ∙ some in
        let same : y ≡ x = cc in
        subst (λ z. test z ≡ false) same isnt
    | inr behind ↦ none_passes test other ys x (sym (ap (λ b. cond b (Some y) (find test ys)) isnt) ∙ none) (sym (ap (λ b. cond b (Some y) (find other ys)) behind) ∙ some)
  ]
]

-- an operation that goes nowhere but through a table
record ByTable (o : Coded) (p : Point) (op : Op) : Type 0 where
  ends : ends_flow op ≡ true
  role : role_by o p op ≡ jump_by_table (table_of_point o p)
  branch : branch_edges_by o p op ≡ []
  bad : is_bad_by o p op ≡ false
  places : places_by o p op ≡ []
  inner : is_inner_call_by o p op ≡ false
  numberless : has_stack_offset op ≡ false

is_thunk : (to : Destination) → is_indirect_thunk to ≡ true → to ≡ ToIndirectThunk
is_thunk ToIndirectThunk h = refl
is_thunk _ h = absurd (false≢true h)

by_thunk : (o : Coded) (p : Point) (rel : ℤ) (wide : Bool) → destination_of o p ≡ ToIndirectThunk → ByTable o p (ops.Jmp rel wide)
by_thunk o p rel wide is = record { ends = refl; role = ap (jump_role o p) is; branch = ap (jump_edges o p) is; bad = ap (is_bad_jump o p) is; places = ap (jump_places o p) is; inner = refl; numberless = refl }

by_table : (o : Coded) (p : Point) (op : Op) → is_indirect_jump op (destination_of o p) ≡ true → ByTable o p op
by_table o p (ops.JmpInd table) h = record { ends = refl; role = refl; branch = refl; bad = refl; places = refl; inner = refl; numberless = refl }
by_table o p (ops.Jmp rel wide) h = by_thunk o p rel wide (is_thunk (destination_of o p) h)
by_table o p _ h = absurd (false≢true h)

-- nor does it return through code that returns for its caller
through_by : (o : Coded) (p : Point) (op : Op) → is_indirect_jump op (destination_of o p) ≡ true → (is_by_memory op ≡ true → returns_through o p ≡ None) → returns_through o p ≡ None
through_by o p (ops.JmpInd table) h memory = memory refl
through_by o p (ops.Jmp rel wide) h memory = by_thunk_through o p (is_thunk (destination_of o p) h)
through_by o p _ h memory = absurd (false≢true h)

-- the table of an owner is that of its first entry's
same_owner_is : (a b : Option ℕ) → same_owner a b ≡ true → a ≡ b
same_owner_is None None h = refl
same_owner_is None (Some b) h = absurd (false≢true h)
same_owner_is (Some a) None h = absurd (false≢true h)
same_owner_is (Some a) (Some b) h = ap Some (eqb-true a b h)

module _ (o : Elf) where
  abbrev owned : Option ℕ → Place → Bool
  owned owner place = same_owner (owner_at o place) owner

  -- where a test lets some through, it lets the first through
  some_taken : (b : Bool) (x : Place) (xs : List Place) → is_some_place (cond b (x ∷ xs) []) ≡ true → b ≡ true
  some_taken true x xs some = refl
  some_taken false x xs some = absurd (false≢true some)

  first_owned : (owner : Option ℕ) (x : Place) (xs : List Place) → is_some_place (take_while (owned owner) (x ∷ xs)) ≡ true → owner_at o x ≡ owner
  first_owned owner x xs some = same_owner_is (owner_at o x) owner (some_taken (owned owner x) x (take_while (owned owner) xs) (sym (ap is_some_place (take_while-cons (owned owner) x xs)) ∙ some))

  one_owner : (a b : Option ℕ) (xs : List Place) → is_some_place (take_while (owned a) xs) ≡ true → is_some_place (take_while (owned b) xs) ≡ true → take_while (owned a) xs ≡ take_while (owned b) xs
  one_owner a b [] some other = refl
  one_owner a b (x ∷ xs) some other = ap (λ own. take_while (owned own) (x ∷ xs)) (sym (first_owned a x xs some) ∙ first_owned b x xs other)

  same_entries : (texts : List SectionText) (entries : List AltEntry) (a b : Option ℕ) (table : Option Place) → is_some_place (entries_by o texts entries a table) ≡ true → is_some_place (entries_by o texts entries b table) ≡ true → entries_by o texts entries a table ≡ entries_by o texts entries b table
  same_entries texts entries a b None some other = refl
  same_entries texts entries a b (Some start) some other = one_owner a b (entries_of o texts entries start) some other

-- the edges to the entries of a table, but for those past the start of a site
abbrev along : Coded → Place → List Edge
along o place = cond (is_past_start place (site_holding o place)) [] (edges_to Table (arrive o place))

to_table : (points : List ℕ) → All (λ e. e.kind ≡ Table) (edges_to Table points)
to_table [] = All-nil (λ (e : Edge). e.kind ≡ Table)
to_table (q ∷ points) = All-cons (λ (e : Edge). e.kind ≡ Table) (edge q Table) (edges_to Table points) refl (to_table points)

along_table : (b : Bool) (points : List ℕ) → All (λ e. e.kind ≡ Table) (cond b [] (edges_to Table points))
along_table true points = All-nil (λ (e : Edge). e.kind ≡ Table)
along_table false points = to_table points

all_along : (o : Coded) (places : List Place) → All (λ e. e.kind ≡ Table) (flat_map (along o) places)
all_along o [] = All-nil (λ (e : Edge). e.kind ≡ Table)
all_along o (place ∷ places) =
    All-append (λ (e : Edge). e.kind ≡ Table) (along o place) (flat_map (along o) places) (along_table (is_past_start place (site_holding o place)) (arrive o place)) (all_along o places)

enters : (p : Point) (place : Place) (at : Option Site) → ((s : Site) → at ≡ Some s → is_original_of s p ≡ false) → enters_site at p place ≡ is_past_start place at
enters p place None outside = refl
enters p place (Some s) outside = ap (λ b. not (same_place s.start place) && not b) (outside s refl) ∙ and_true (not (same_place s.start place))

-- nothing is wrong but what one field tells
marked : (a b c d f e : Bool) → a ≡ false → b ≡ false → c ≡ e → d ≡ false → f ≡ false → (let m : Marks = record { bad = a; past_end = b; into_site = c; into_function = d; relocated = f } in m) ≡ (let m : Marks = record { bad = false; past_end = false; into_site = e; into_function = false; relocated = false } in m)
marked a b c d f e no_a no_b is_c no_d no_f = cc

some_plain : (places : List Place) → is_some_place places ≡ true → jump_by_table places ≡ Plain
some_plain [] some = absurd (false≢true some)
some_plain (place ∷ places) some = refl

module _ (o : Coded) (p : Point) (lone : is_lone_jump o p ≡ true) where
  abbrev insn : Insn
  insn = insn_of_object o p

  parts : (is_indirect_jump insn.op (destination_of o p) && (is_some_place (table_of_point o p) && (is_unlisted o p && is_in_open_code o p))) ≡ true
  unfolding is_lone_jump
  parts = lone

  by : ByTable o p insn.op
  by = by_table o p insn.op (both (is_indirect_jump insn.op (destination_of o p)) _ parts).0

  not_through : returns_through o p ≡ None
  not_through = through_by o p insn.op (both (is_indirect_jump insn.op (destination_of o p)) _ parts).0 (memory_through o p)

  no_branch : branch_edges o p ≡ []
  no_branch = ap (λ (t : Option ℕ). cond (is_some t) [] (branch_edges_by o p insn.op)) not_through ∙ by.branch

  not_bad_branch : is_bad_branch o p ≡ false
  not_bad_branch = ap (λ (t : Option ℕ). is_none t && is_bad_by o p insn.op) not_through ∙ by.bad

  no_branch_places : branch_places o p ≡ []
  no_branch_places = ap (λ (t : Option ℕ). cond (is_some t) [] (places_by o p insn.op)) not_through ∙ by.places

  behind : (is_some_place (table_of_point o p) ≡ true) × ((is_unlisted o p && is_in_open_code o p) ≡ true)
  behind = both (is_some_place (table_of_point o p)) _ (both (is_indirect_jump insn.op (destination_of o p)) _ parts).1

  pub has_table : is_some_place (table_of_point o p) ≡ true
  has_table = behind.0

  unlisted : (is_unlisted o p ≡ true) × (is_in_open_code o p ≡ true)
  unlisted = both (is_unlisted o p) (is_in_open_code o p) behind.1

  no_targets : static_targets o p ≡ []
  no_targets = no_place (static_targets o p) (not_true (is_some_place (static_targets o p)) (both (not (is_some_place (static_targets o p))) (not (is_some_place (fixups o p))) unlisted.0).0)

  no_fixups : fixups o p ≡ []
  no_fixups = no_place (fixups o p) (not_true (is_some_place (fixups o p)) (both (not (is_some_place (static_targets o p))) (not (is_some_place (fixups o p))) unlisted.0).1)

  open_code : (is_none (site_holding o p.place) ≡ true) × (not (is_unchecked_point o p) ≡ true)
  open_code = both (is_none (site_holding o p.place)) (not (is_unchecked_point o p)) (both (is_plain p) (is_none (site_holding o p.place) && not (is_unchecked_point o p)) unlisted.1).1

  outside : site_holding o p.place ≡ None
  outside = none_is (site_holding o p.place) open_code.0

  checked : is_unchecked_point o p ≡ false
  checked = not_true (is_unchecked_point o p) open_code.1

  not_original : (place : Place) (s : Site) → site_holding o place ≡ Some s → is_original_of s p ≡ false
  unfolding site_holding
  not_original place s at = ap (λ b. is_plain p && b) (none_passes (λ (site : Site). in_site site p.place) (λ (site : Site). in_site site place) (sites_of o) s outside at) ∙ and-false (is_plain p)

  into : (place : Place) → is_into_site o p place ≡ is_past_start place (site_holding o place)
  into place = enters p place (site_holding o place) (not_original place)

  ends : goes_on o p ≡ false
  unfolding goes_on
  ends =
      ap (λ places. is_some_place places || (not (ends_flow insn.op) && not (is_dead_end o p))) no_targets
      ∙ ap (λ b. not b && not (is_dead_end o p)) by.ends

  no_next : next_edges o p ≡ []
  no_next = ap (λ b. cond b (edges_to Next (after o p)) []) ends

  by_entries : table_edges o p ≡ flat_map (along o) (table_of_point o p)
  by_entries = flat_map_same (λ place. way_edges o p place (Along Table)) (along o) (λ place. ap (λ b. cond b [] (edges_to Table (arrive o place))) (into place)) (table_of_point o p)

  -- it goes to the entries of its table
  pub lone_goes : goes o p ≡ flat_map (along o) (table_of_point o p)
  unfolding goes
  lone_goes =
      ap (λ b. cond b [] (next_edges o p ++ (branch_edges o p ++ (listed_edges o Taken p (static_targets o p) ++ (listed_edges o Fixup p (fixups o p) ++ table_edges o p))))) checked
      ∙ (ap (λ (l : List Edge). l ++ (branch_edges o p ++ (listed_edges o Taken p (static_targets o p) ++ (listed_edges o Fixup p (fixups o p) ++ table_edges o p)))) no_next
      ∙ (ap (λ (l : List Edge). l ++ (listed_edges o Taken p (static_targets o p) ++ (listed_edges o Fixup p (fixups o p) ++ table_edges o p))) no_branch
      ∙ (ap (λ places. listed_edges o Taken p places ++ (listed_edges o Fixup p (fixups o p) ++ table_edges o p)) no_targets
      ∙ (ap (λ places. listed_edges o Fixup p places ++ table_edges o p) no_fixups ∙ by_entries))))

  pub lone_role : role_of o p ≡ Plain
  unfolding role_of
  lone_role = ap (role_through o p) not_through ∙ by.role ∙ some_plain (table_of_point o p) has_table

  not_bad : has_bad_target o p ≡ false
  unfolding has_bad_target
  not_bad =
      ap (λ b. b || (is_bad_listed o Taken p (static_targets o p) || is_bad_listed o Fixup p (fixups o p))) not_bad_branch
      ∙ (ap (λ places. is_bad_listed o Taken p places || is_bad_listed o Fixup p (fixups o p)) no_targets ∙ ap (is_bad_listed o Fixup p) no_fixups)

  not_past_end : (comes_back : Bool) → (is_at_end o p && (goes_on o p && comes_back)) ≡ false
  not_past_end comes_back = ap (λ b. is_at_end o p && (b && comes_back)) ends ∙ and-false (is_at_end o p)

  its_places : target_places o p ≡ table_of_point o p
  its_places =
      ap (λ (l : List Place). l ++ (table_of_point o p ++ (listed_places o Taken p (static_targets o p) ++ listed_places o Fixup p (fixups o p)))) no_branch_places
      ∙ (ap (λ places. table_of_point o p ++ (listed_places o Taken p places ++ listed_places o Fixup p (fixups o p))) no_targets
      ∙ (ap (λ places. table_of_point o p ++ listed_places o Fixup p places) no_fixups ∙ append-nil (table_of_point o p)))

  into_site : has_target_in_site o p ≡ list_any (λ place. is_past_start place (site_holding o place)) (table_of_point o p)
  unfolding has_target_in_site
  into_site = ap (list_any (is_into_site o p)) its_places ∙ any_same (is_into_site o p) (λ place. is_past_start place (site_holding o place)) into (table_of_point o p)

  not_into_function : calls_into_function o p ≡ false
  unfolding calls_into_function
  not_into_function = by.inner

  not_relocated : has_relocated_offset o p insn ≡ false
  not_relocated = ap (λ b. b && is_relocated o.elf p.place insn.len) by.numberless

  pub lone_marks : (comes_back : Bool) → marks_of o p comes_back ≡ (let m : Marks = record { bad = false; past_end = false; into_site = list_any (λ place. is_past_start place (site_holding o place)) (table_of_point o p); into_function = false; relocated = false } in m)
  lone_marks comes_back =
      marked (has_bad_target o p) (is_at_end o p && (goes_on o p && comes_back)) (has_target_in_site o p) (calls_into_function o p) (has_relocated_offset o p insn) (list_any (λ place. is_past_start place (site_holding o place)) (table_of_point o p))
      not_bad (not_past_end comes_back) into_site not_into_function not_relocated

-- the table of a point is that of the jump at its place, where it has entries
unguarded : (b : Bool) (places : List Place) → is_some_place (cond b [] places) ≡ true → cond b [] places ≡ places
unguarded true places some = absurd (false≢true some)
unguarded false places some = refl

abbrev own_entries : Coded → Point → Option Place → List Place
own_entries o p start = entries_by o.elf (texts_of o) (alternatives_of o) (owner_of_point o p) start

own_table : (o : Coded) (p : Point) → is_some_place (table_of_point o p) ≡ true → table_of_point o p ≡ own_entries o p (table_start_of o p)
unfolding table_of_point table_start_of
own_table o p some = unguarded (is_padding o p) (own_entries o p (table_start_of o p)) some

same_tables : (o : Coded) (p r : Point) → is_some_place (table_of_point o p) ≡ true → is_some_place (table_of_point o r) ≡ true → table_start_of o p ≡ table_start_of o r → table_of_point o p ≡ table_of_point o r
same_tables o p r some other start =
    let one : table_of_point o p ≡ own_entries o p (table_start_of o r) = own_table o p some ∙ ap (own_entries o p) start in
    let own = own_table o r other in
    one
    ∙ same_entries o.elf (texts_of o) (alternatives_of o) (owner_of_point o p) (owner_of_point o r) (table_start_of o r) (sym (ap is_some_place one) ∙ some) (sym (ap is_some_place own) ∙ other)
    ∙ sym own

pub go_alike : (o : Coded) (p r : Point) → is_lone_jump o p ≡ true → is_lone_jump o r ≡ true → table_start_of o p ≡ table_start_of o r → GoAlike o p r
go_alike o p r lone other start =
    let same : table_of_point o p ≡ table_of_point o r = same_tables o p r (has_table o p lone) (has_table o r other) start in
    record {
      edges = lone_goes o p lone ∙ ap (flat_map (along o)) same ∙ sym (lone_goes o r other);
      tables = subst (λ (es : List Edge). All (λ e. e.kind ≡ Table) es) (sym (lone_goes o r other)) (all_along o (table_of_point o r));
      role = lone_role o p lone;
      other_role = lone_role o r other;
      marks = λ comes_back.
          lone_marks o p lone comes_back
          ∙ ap (λ places. let m : Marks = record { bad = false; past_end = false; into_site = list_any (λ place. is_past_start place (site_holding o place)) places; into_function = false; relocated = false } in m) same
          ∙ sym (lone_marks o r other comes_back);
    }
