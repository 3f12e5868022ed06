-- Where the rows of an object lie whose sections are ended.
use Rattle.std.proofs.Common.{◌≡◌, ℕ, ◌+◌, ◌*◌, ◌<◌, ◌≤◌, Bool, true, false, cond, ◌&&◌, not, List, [], ◌∷◌, Option, Some, None, refl, sym, ◌∙◌, ap, subst, inl, inr, eqb, ltb, arith}
use Rattle.std.specs.Prelude.{All, Contains, IfSome, find, filter, filter_map, option_map}
use Rattle.std.specs.List.{cons_option}
use Rattle.std.specs.Option.{option_map_or}
use Rattle.std.specs.Ordering.{int_eq}
use Rattle.std.specs.Bool.{beq}
use Rattle.std.proofs.lemmas.Bool.{eqb-true, ltb-true}
use Rattle.std.proofs.lemmas.List.Elements.{All-nil, All-cons, All-head, All-tail, All-contains, All-contains_itself, All-weaker}
use Rattle.ot_base.specs.declared.row.Row.{Row}
use Rattle.ot_base.specs.declared.row.PlacedRow.{PlacedRow}
use Rattle.ot_base.specs.Rows.{zero_row, same_row}
use Rattle.table_defs.specs.declared.range.Range.{Range}
use Rattle.table_defs.specs.Lookup.{AddressedRow, addressed, addressed_row}
use Rattle.orc_merge.specs.Ends.{at_offset, rows_of_section, last_row, ends, is_ended, first_unended}
use Rattle.orc_merge.proofs.Latest.{rank, kind_rank, IsGreatest, last_is_greatest, Contains-head, Contains-tail, Contains-cases, Contains-none}

both : (a b : Bool) → (a && b) ≡ true → (a ≡ true) × (b ≡ true)
both true b h = (refl, h)
both false b h = absurd (let e : false ≡ true = h in cc)

not_false : (b : Bool) → not b ≡ false → b ≡ true
not_false true h = refl
not_false false h = absurd (let e : true ≡ false = h in cc)

-- what a filter leaves
module _ {A B : Type 0} (h : A → Option B) where
  pub All-filter_map : (P : B → Type 0) (xs : List A) → All (λ x. IfSome (h x) P) xs → All P (filter_map h xs)
  All-filter_map P [] all = All-nil P
  All-filter_map P (x ∷ xs) all = go (h x) (All-head (λ x. IfSome (h x) P) x xs all) (All-filter_map P xs (All-tail (λ x. IfSome (h x) P) x xs all))
    where
      go : (o : Option B) → IfSome o P → All P (filter_map h xs) → All P (cons_option o (filter_map h xs))
      go None is rest = rest
      go (Some y) is rest = All-cons P y (filter_map h xs) is rest

  more : (o : Option B) (ys : List B) (y : B) → Contains ys y → Contains (cons_option o ys) y
  more None ys y there = there
  more (Some w) ys y there = Contains-tail w y ys there

  pub Contains-filter_map : (xs : List A) (x : A) (y : B) → Contains xs x → h x ≡ Some y → Contains (filter_map h xs) y
  Contains-filter_map [] x y among is = absurd (Contains-none x among)
  Contains-filter_map (z ∷ xs) x y among is =
      elim (Contains-cases z x xs among) [
        | inl same ↦ subst (λ (o : Option B). Contains (cons_option o (filter_map h xs)) y) (sym (ap h same ∙ is)) (Contains-head y (filter_map h xs))
        | inr later ↦ more (h z) (filter_map h xs) y (Contains-filter_map xs x y later is)
      ]

  pub filter_map_source : (xs : List A) (y : B) → Contains (filter_map h xs) y → (x : A) × Contains xs x × (h x ≡ Some y)
  filter_map_source [] y among = absurd (Contains-none y among)
  filter_map_source (z ∷ xs) y among = go (h z) refl (λ there. filter_map_source xs y there) among
    where
      behind : (x : A) × Contains xs x × (h x ≡ Some y) → (x : A) × Contains (z ∷ xs) x × (h x ≡ Some y)
      behind found = (found.0, Contains-tail z found.0 xs found.1, found.2)

      go : (o : Option B) → h z ≡ o → (Contains (filter_map h xs) y → (x : A) × Contains xs x × (h x ≡ Some y)) → Contains (cons_option o (filter_map h xs)) y → (x : A) × Contains (z ∷ xs) x × (h x ≡ Some y)
      go None none rest there = behind (rest there)
      go (Some w) some rest there =
          elim (Contains-cases w y (filter_map h xs) there) [
            | inl same ↦ (z, Contains-head z xs, some ∙ ap Some same)
            | inr later ↦ behind (rest later)
          ]

module _ {A : Type 0} (p : A → Bool) where
  kept : (b : Bool) (z : A) (ys : List A) (x : A) → Contains ys x → Contains (cond b (z ∷ ys) ys) x
  kept true z ys x there = Contains-tail z x ys there
  kept false z ys x there = there

  pub Contains-filter : (xs : List A) (x : A) → Contains xs x → p x ≡ true → Contains (filter p xs) x
  Contains-filter [] x among is = absurd (Contains-none x among)
  Contains-filter (z ∷ xs) x among is =
      elim (Contains-cases z x xs among) [
        | inl same ↦ subst (λ (b : Bool). Contains (cond b (z ∷ filter p xs) (filter p xs)) x) (sym (ap p same ∙ is)) (subst (λ (w : A). Contains (w ∷ filter p xs) x) (sym same) (Contains-head x (filter p xs)))
        | inr later ↦ kept (p z) z (filter p xs) x (Contains-filter xs x later is)
      ]

  -- what a search finds
  pub found_passes : (xs : List A) (x : A) → find p xs ≡ Some x → (p x ≡ true) × Contains xs x
  found_passes [] x h = absurd (let e : None ≡ Some x = h in cc)
  found_passes (z ∷ xs) x h = go (p z) refl (λ there. found_passes xs x there) h
    where
      go : (b : Bool) → p z ≡ b → (find p xs ≡ Some x → (p x ≡ true) × Contains xs x) → cond b (Some z) (find p xs) ≡ Some x → (p x ≡ true) × Contains (z ∷ xs) x
      go true is rest same = let e : z ≡ x = cc in (ap p (sym e) ∙ is, subst (λ (w : A). Contains (w ∷ xs) x) (sym e) (Contains-head x xs))
      go false is rest there = let found = rest there in (found.0, Contains-tail z x xs found.1)

  pub none_found : (xs : List A) → find p xs ≡ None → All (λ x. p x ≡ false) xs
  none_found [] h = All-nil _
  none_found (z ∷ xs) h = go (p z) refl (λ there. none_found xs there) h
    where
      go : (b : Bool) → p z ≡ b → (find p xs ≡ None → All (λ x. p x ≡ false) xs) → cond b (Some z) (find p xs) ≡ None → All (λ x. p x ≡ false) (z ∷ xs)
      go true is rest there = absurd (let e : Some z ≡ None = there in cc)
      go false is rest there = All-cons (λ x. p x ≡ false) z xs is (rest there)

-- A row lies in a range of its object, which has a byte, and is no later than the row of zeros that stands right behind the range.
pub record IsBounded (rows : List PlacedRow) (ranges : List Range) (x : AddressedRow) : Type 0 where
  pub range : Range
  pub among : Contains ranges range
  pub from : range.base ≤ x.address
  pub filled : 0 < range.size
  pub end : AddressedRow
  pub held : Contains (addressed ranges rows) end
  pub end_at : end.address ≡ range.base + range.size
  pub says_nothing : end.row.kind ≡ 0
  pub no_later : rank x ≤ rank end

abbrev at_base : ℕ → PlacedRow → AddressedRow
at_base base placed = record { address = base + placed.place.off; row = placed.row }

abbrev pub section_row : ℕ → PlacedRow → Option AddressedRow
section_row sec placed = cond (eqb placed.place.sec sec) (Some (at_offset placed)) None

placed_there : (ranges : List Range) (placed : PlacedRow) (t : Range) → find (λ range. eqb range.sec placed.place.sec) ranges ≡ Some t → addressed_row ranges placed ≡ Some (at_base t.base placed)
placed_there ranges placed t is = ap (λ o. option_map (λ at. record { address = at; row = placed.row }) (option_map (λ (range : Range). range.base + placed.place.off) o)) is

section_known : (sec : ℕ) (placed : PlacedRow) (x : AddressedRow) → section_row sec placed ≡ Some x → (placed.place.sec ≡ sec) × (at_offset placed ≡ x)
section_known sec placed x h = go (eqb placed.place.sec sec) refl h
  where
    go : (b : Bool) → eqb placed.place.sec sec ≡ b → cond b (Some (at_offset placed)) None ≡ Some x → (placed.place.sec ≡ sec) × (at_offset placed ≡ x)
    go true is same = (eqb-true _ _ is, cc)
    go false is same = absurd (let e : None ≡ Some x = same in cc)

fifth : (a b c d e f : Bool) → (a && (b && (c && (d && (e && f))))) ≡ true → e ≡ true
fifth true true true true e f h = (both e f h).0
fifth false b c d e f h = absurd (let g : false ≡ true = h in cc)
fifth true false c d e f h = absurd (let g : false ≡ true = h in cc)
fifth true true false d e f h = absurd (let g : false ≡ true = h in cc)
fifth true true true false e f h = absurd (let g : false ≡ true = h in cc)

zero_kind : (row : Row) → same_row row zero_row ≡ true → row.kind ≡ 0
zero_kind row h = eqb-true row.kind 0 (fifth (int_eq row.sp_offset zero_row.sp_offset) (int_eq row.bp_offset zero_row.bp_offset) (eqb row.sp_reg zero_row.sp_reg) (eqb row.bp_reg zero_row.bp_reg) (eqb row.kind zero_row.kind) (beq row.signal zero_row.signal) h)

-- the last row of an ended section
end_of : (rows : List PlacedRow) (range : Range) (x : AddressedRow) → is_ended rows range ≡ true → Contains (rows_of_section range.sec rows) x
    → (last : AddressedRow) × Contains (rows_of_section range.sec rows) last × (rank x ≤ rank last) × (0 < range.size) × (last.address ≡ range.size) × (last.row.kind ≡ 0)
end_of rows range x ended among = go (last_row range.sec rows) refl (last_is_greatest (rows_of_section range.sec rows)) ended
  where
    go : (o : Option AddressedRow) → last_row range.sec rows ≡ o → IsGreatest (rows_of_section range.sec rows) o → option_map_or (ends range.size) o true ≡ true
        → (last : AddressedRow) × Contains (rows_of_section range.sec rows) last × (rank x ≤ rank last) × (0 < range.size) × (last.address ≡ range.size) × (last.row.kind ≡ 0)
    go None is none ends_is = absurd (Contains-none x (subst (λ xs. Contains xs x) none among))
    go (Some last) is greatest ends_is =
        let one = both (ltb 0 range.size) (eqb last.address range.size && same_row last.row zero_row) ends_is in
        let two = both (eqb last.address range.size) (same_row last.row zero_row) one.1 in
        (last, greatest.0, All-contains (λ y. rank y ≤ rank last) (rows_of_section range.sec rows) x greatest.1 among, ltb-true _ _ one.0, eqb-true _ _ two.0, zero_kind last.row two.1)

bound_of : (rows : List PlacedRow) (ranges : List Range) → first_unended rows ranges ≡ None → (placed : PlacedRow) → Contains rows placed → IfSome (addressed_row ranges placed) (IsBounded rows ranges)
bound_of rows ranges none placed among = go (find (λ range. eqb range.sec placed.place.sec) ranges) refl
  where
    bound : (t : Range) → find (λ range. eqb range.sec placed.place.sec) ranges ≡ Some t → IsBounded rows ranges (at_base t.base placed)
    bound t is =
        let found = found_passes (λ range. eqb range.sec placed.place.sec) ranges t is in
        let sec : t.sec ≡ placed.place.sec = eqb-true _ _ found.0 in
        let ended : is_ended rows t ≡ true = not_false (is_ended rows t) (All-contains (λ range. not (is_ended rows range) ≡ false) ranges t (none_found (λ range. not (is_ended rows range)) ranges none) found.1) in
        let own : section_row t.sec placed ≡ Some (at_offset placed) = ap (λ s. section_row s placed) sec ∙ self_row in
        let (last, last_among, le, filled, last_at, zero) = end_of rows t (at_offset placed) ended (Contains-filter_map (section_row t.sec) rows placed (at_offset placed) among own) in
        let (end_placed, end_among, end_is) = filter_map_source (section_row t.sec) rows last last_among in
        let end_known = section_known t.sec end_placed last end_is in
        let same_find : find (λ range. eqb range.sec end_placed.place.sec) ranges ≡ Some t = ap (λ s. find (λ range. eqb range.sec s) ranges) (end_known.0 ∙ sec) ∙ is in
        let end_off : end_placed.place.off ≡ t.size = ap (λ (x : AddressedRow). x.address) end_known.1 ∙ last_at in
        let end_kind : end_placed.row.kind ≡ 0 = ap (λ (x : AddressedRow). x.row.kind) end_known.1 ∙ zero in
        let end_rank : rank (at_offset end_placed) ≡ rank last = ap rank end_known.1 in
        record {
          range = t;
          among = found.1;
          from = omega arith;
          filled = filled;
          end = at_base t.base end_placed;
          held = Contains-filter_map (addressed_row ranges) rows end_placed (at_base t.base end_placed) end_among (placed_there ranges end_placed t same_find);
          end_at = omega arith;
          says_nothing = end_kind;
          no_later = shifted t.base placed.place.off end_placed.place.off (kind_rank placed.row.kind) (kind_rank end_placed.row.kind) (subst (λ n. rank (at_offset placed) ≤ n) (sym end_rank) le);
        }
      where
        self_row : section_row placed.place.sec placed ≡ Some (at_offset placed)
        self_row = ap (λ b. cond b (Some (at_offset placed)) None) (same_number placed.place.sec)
          where
            same_number : (n : ℕ) → eqb n n ≡ true
            same_number n = grind arith

        shifted : (base one other j k : ℕ) → 2 * one + j ≤ 2 * other + k → 2 * (base + one) + j ≤ 2 * (base + other) + k
        shifted base one other j k le = omega arith

    go : (o : Option Range) → find (λ range. eqb range.sec placed.place.sec) ranges ≡ o → IfSome (option_map (λ at. record { address = at; row = placed.row }) (option_map (λ (range : Range). range.base + placed.place.off) o)) (IsBounded rows ranges)
    go None is = tt
    go (Some t) is = bound t is

-- each row of an object whose sections are ended is bounded
pub bounded : (rows : List PlacedRow) (ranges : List Range) → first_unended rows ranges ≡ None → All (IsBounded rows ranges) (addressed ranges rows)
bounded rows ranges none =
    All-filter_map (addressed_row ranges) (IsBounded rows ranges) rows
    (All-weaker (Contains rows) (λ placed. IfSome (addressed_row ranges placed) (IsBounded rows ranges)) (bound_of rows ranges none) rows (All-contains_itself rows))
