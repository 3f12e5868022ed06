-- How control goes on from the points of an object in order, inside replacements and behind points.
use Rattle.std.proofs.Common.{◌≡◌, ℕ, suc, ◌+◌, ◌-◌, ◌<◌, ◌≤◌, ◌⊎◌, List, [], ◌∷◌, length, Bool, true, false, not, ◌&&◌, cond, Option, Some, None, Contains, refl, sym, ap, ◌∙◌, subst, inl, inr, arith}
use Rattle.std.specs.Prelude.{option_and_then, ◌==◌}
use Rattle.std.specs.List.{range_with_len, take_while}
use Rattle.std.proofs.lemmas.List.FromFn.{length-range_with_len}
use Rattle.std.proofs.lemmas.List.Sums.{take_while-cons}
use Rattle.std.proofs.lemmas.Bool.{cases_lt, eqb-true}
use Rattle.ot_base.specs.NameLists.{NameLists}
use Rattle.ot_base.specs.declared.place.Place.{Place}
use Rattle.ot_base.specs.Places.{same_place}
use Rattle.operation_defs.specs.declared.insn.Insn.{Insn}
use Rattle.flow_defs.specs.Coded.{Coded}
use Rattle.machine_defs.specs.Program.{Site, in_site}
use Rattle.symbols_relocs.specs.Targets.{branch_target}
use Rattle.symbols_relocs.specs.declared.target.Target.{Target}
use Rattle.symbols_relocs.specs.declared.target.Target.TheVariants as targets
use Rattle.alternatives.specs.declared.point.Point.{Point}
use Rattle.alternatives.specs.Originals.{entry_at}
use Rattle.alternatives.specs.Points.{entry_of, insn_of_point, is_point, next_point, point_after, point_behind}
use Rattle.alternatives.specs.Texts.{behind}
use Rattle.table_law.proofs.Equal.{equal_places}
use Rattle.table_law.proofs.Lists.{finds, some_is}
use Rattle.flow_defs.specs.declared.destination.Crossing.TheVariants.{MayNotCross}
use Rattle.flow_defs.specs.declared.destination.Destination.{Destination}
use Rattle.flow_defs.specs.declared.destination.Destination.TheVariants as destinations
use Rattle.flow_defs.specs.Code.{alternatives_of, is_plain, point_at, texts_of}
use Rattle.flow_defs.specs.Arrival.{behind_plain as behind_plain_place, decoded_insn, is_short_nop, is_short_nop_at, next_of_replacement, place_behind, replacement_end, run_from, site_end}
use Rattle.flow_defs.specs.Sites.{site_holding, site_of_entry, sites_of}
use Rattle.flow_defs.specs.Targets.{Displacement, destination, destination_by, displacement_of, lacks_reloc, named_destination, own_destination, relative_place}
use Rattle.object_law.specs.Flows.{ObjectIsInOrder}
use Rattle.object_law.proofs.Bodies.{before_cut}
use Rattle.object_law.proofs.EntryFacts.{entry_is}
use Rattle.object_law.proofs.Levels.{and_true, not_true}
use Rattle.object_law.proofs.Numbers.{point_count}
use Rattle.object_law.proofs.Overlays.{Overlays, address_plain, overlays, own_entry, plain_at}
use Rattle.object_law.proofs.PointKinds.{point_is}
use Rattle.object_law.proofs.Sites.{InSite, has_site, in_site_is, is_in_site, one_site, site_is, some_len}
use Rattle.object_law.proofs.Starts.{address_at, sites_apart}

same_within : {a b : Point} → ◌≡◌ {A = Destination} (destinations.ToOwnPoint a) (destinations.ToOwnPoint b) → a ≡ b
same_within is = cc

-- a point of a replacement, and one of the same
pub record IsOfSame (point other : Point) : Type 0 where
  pub replaced : (point.variant == 0) ≡ false
  pub same : other.variant ≡ point.variant

-- a jump inside a replacement stays in it
pub destination_within : (o : Coded) (point : Point) (insn : Insn) (other : Point) → destination o point insn ≡ destinations.ToOwnPoint other → IsOfSame point other
unfolding destination
destination_within o point insn other is = by_displacement (displacement_of insn.op) is
  where
    by_point : (b c : Bool) (place : Place) → cond b (destinations.ToOwnPoint (record { place = place; variant = point.variant })) (cond c (destinations.ToPlace (site_end o point) None MayNotCross) destinations.ToNowhere) ≡ destinations.ToOwnPoint other → other.variant ≡ point.variant
    by_point true c place is = ap (λ (p : Point). p.variant) (sym (same_within is))
    by_point false true place is = absurd (let k : ⊥ = cc in k)
    by_point false false place is = absurd (let k : ⊥ = cc in k)

    by_place : (place : Option Place) → own_destination o point place ≡ destinations.ToOwnPoint other → other.variant ≡ point.variant
    by_place None is = absurd (let k : ⊥ = cc in k)
    by_place (Some place) is = by_point (is_point (texts_of o) (alternatives_of o) (record { place = place; variant = point.variant })) (same_place place (replacement_end o point)) place is

    by_target : (t : Target) → named_destination t ≡ destinations.ToOwnPoint other → IsOfSame point other
    by_target (targets.Inside place) is = absurd (let k : ⊥ = cc in k)
    by_target (targets.Either place sym) is = absurd (let k : ⊥ = cc in k)
    by_target (targets.Outside sym) is = absurd (let k : ⊥ = cc in k)
    by_target targets.ThunkIndirect is = absurd (let k : ⊥ = cc in k)
    by_target targets.ThunkReturn is = absurd (let k : ⊥ = cc in k)
    by_target targets.Bad is = absurd (let k : ⊥ = cc in k)

    by_reloc : (b : Bool) (d : Displacement) → (not (is_plain point) && lacks_reloc o.elf point.place insn.len d) ≡ b
        → cond b (own_destination o point (relative_place point.place insn.len d)) (named_destination (branch_target o.elf point.place insn)) ≡ destinations.ToOwnPoint other → IsOfSame point other
    by_reloc true d e is = record { replaced = not_true (is_plain point) (and_true (not (is_plain point)) (lacks_reloc o.elf point.place insn.len d) e).0; same = by_place (relative_place point.place insn.len d) is }
    by_reloc false d e is = by_target (branch_target o.elf point.place insn) is

    by_displacement : (d : Option Displacement) → destination_by o point insn d ≡ destinations.ToOwnPoint other → IsOfSame point other
    by_displacement None is = absurd (let k : ⊥ = cc in k)
    by_displacement (Some d) is = by_reloc (not (is_plain point) && lacks_reloc o.elf point.place insn.len d) d refl is

-- so does control that goes on in it
pub next_within : (o : Coded) (point next : Point) → next_of_replacement o point ≡ Some next → IsOfSame point next
next_within o point next is = by_plain (is_plain point) refl is
  where
    by_point : (insn : Insn) (b : Bool) → cond b (Some (point_after point insn)) None ≡ Some next → next.variant ≡ point.variant
    by_point insn true is = ap (λ (p : Point). p.variant) (sym (some_is is))
    by_point insn false is = absurd (let k : ⊥ = cc in k)

    by_insn : (insn : Option Insn) → option_and_then (point_behind (texts_of o) (alternatives_of o) point) insn ≡ Some next → next.variant ≡ point.variant
    by_insn None is = absurd (let k : ⊥ = cc in k)
    by_insn (Some insn) is = by_point insn (is_point (texts_of o) (alternatives_of o) (point_after point insn)) is

    by_plain : (b : Bool) → is_plain point ≡ b → cond b None (next_point (texts_of o) (alternatives_of o) point) ≡ Some next → IsOfSame point next
    by_plain true e is = absurd (let k : ⊥ = cc in k)
    by_plain false e is = record { replaced = e; same = by_insn (insn_of_point (texts_of o) (alternatives_of o) point) is }

-- those taken from the front of a list are no more than it has
taken_within : {X : Type 0} (p : X → Bool) (xs : List X) → length (take_while p xs) ≤ length xs
taken_within p [] = omega arith
taken_within p (x ∷ xs) = subst (λ taken. length taken ≤ suc (length xs)) (sym (take_while-cons p x xs)) (go (p x) (taken_within p xs))
  where
    go : (b : Bool) → length (take_while p xs) ≤ length xs → length (cond b (x ∷ take_while p xs) []) ≤ suc (length xs)
    go true rest = omega (arith, rest)
    go false rest = omega arith

-- what is left of a run in a site ends in it
run_within : (o : Coded) (place : Place) (site : Site) → run_from o place site ≤ site.start.off + site.len - place.off
run_within o place site =
    let most = taken_within (is_short_nop_at o place.sec) (range_with_len place.off (site.start.off + site.len - place.off)) in
    omega (arith, most, length-range_with_len place.off (site.start.off + site.len - place.off))

module _ (o : Coded) (lists : NameLists) (order : ObjectIsInOrder o) where
  -- a point of a replacement runs in the site of its original
  record OverSite (q : ℕ) : Type 0 where
    over : Overlays o (point_at o q) (decoded_insn o (point_at o q))
    inside : InSite (site_of_entry (own_entry o (point_at o q))) (address_at o q)

  over_site : (q : ℕ) → q < point_count o → ((point_at o q).variant == 0) ≡ false → OverSite q
  over_site q here other =
      let point = point_at o q in
      let a = own_entry o point in
      let over = overlays o point (decoded_insn o point) order other (point_is o q order.bytes here) in
      let own : InSite (site_of_entry a) (behind a.original (point.place.off - a.replacement.off)) = record { sec = refl; from = omega arith; before = omega (arith, over.ends, over.some) } in
      record { over = over; inside = subst (λ (p : Place). InSite (site_of_entry a) p) (sym over.address) own }

  -- so points of one replacement run in one site
  pub same_replacement : (q r : ℕ) (site : Site) → q < point_count o → r < point_count o → IsOfSame (point_at o q) (point_at o r) → Contains (sites_of o) site → in_site site (address_at o r) ≡ true → in_site site (address_at o q) ≡ true
  same_replacement q r site of-q of-r are listed inside =
      let entries = alternatives_of o in
      let one = over_site q of-q are.replaced in
      let other = over_site r of-r (ap (λ v. v == 0) are.same ∙ are.replaced) in
      let own = site_of_entry (own_entry o (point_at o q)) in
      let moved : InSite own (address_at o r) = subst (λ (v : ℕ). InSite (site_of_entry (entry_of entries v)) (address_at o r)) are.same other.inside in
      let same : own ≡ site = sites_apart o lists order own site (address_at o r) (has_site o ((point_at o q).variant - 1) order one.over.counting) listed (is_in_site own (address_at o r) moved) inside in
      subst (λ (s : Site). in_site s (address_at o q) ≡ true) same (is_in_site own (address_at o q) one.inside)

  -- behind a plain point comes its site, or the start of one
  behind_plain : (q : ℕ) (site : Site) → q < point_count o → is_plain (point_at o q) ≡ true → Contains (sites_of o) site → InSite site (behind (point_at o q).place (decoded_insn o (point_at o q)).len)
      → (in_site site (address_at o q) ≡ true) ⊎ (site.start ≡ behind (point_at o q).place (decoded_insn o (point_at o q)).len)
  behind_plain q site here is listed inside =
      let point = point_at o q in
      let insn = decoded_insn o point in
      let plain = eqb-true point.variant 0 is in
      let own = site_is o site listed in
      let a = entry_at (alternatives_of o) own.k in
      let start_sec : a.original.sec ≡ site.start.sec = ap (λ (s : Site). s.start.sec) own.is in
      let start_off : a.original.off ≡ site.start.off = ap (λ (s : Site). s.start.off) own.is in
      elim (cases_lt point.place.off site.start.off) [
        | inl before ↦
            let ends = before_cut o point.place a.original insn (plain_at o point insn plain (point_is o q order.bytes here)) (entry_is o own.k order own.counting).original (sym (start_sec ∙ inside.sec)) (omega (arith, before, start_off)) in
            inr (equal_places site.start (behind point.place insn.len) inside.sec (omega (arith, ends, start_off, inside.from)))
        | inr late ↦
            let own_place : InSite site point.place = record { sec = inside.sec; from = late; before = omega (arith, inside.before) } in
            inl (subst (λ (p : Place). in_site site p ≡ true) (sym (address_plain o point plain)) (is_in_site site point.place own_place))
      ]

  -- behind a site comes none or the start of another
  behind_site : (q : ℕ) (site : Site) → q < point_count o → is_plain (point_at o q) ≡ false → Contains (sites_of o) site → InSite site (site_end o (point_at o q)) → site.start ≡ site_end o (point_at o q)
  behind_site q site here other listed inside =
      let point = point_at o q in
      let over = over_site q here other in
      let a = own_entry o point in
      let some = some_len a.original_len over.over.counting in
      let own = site_is o site listed in
      let b = entry_at (alternatives_of o) own.k in
      let start_sec : b.original.sec ≡ site.start.sec = ap (λ (s : Site). s.start.sec) own.is in
      let start_off : b.original.off ≡ site.start.off = ap (λ (s : Site). s.start.off) own.is in
      let len : b.original_len ≡ site.len = ap (λ (s : Site). s.len) own.is in
      let one = λ (place : Place) (of-a : InSite (site_of_entry a) place) (of-b : InSite (site_of_entry b) place). one_site o (point.variant - 1) own.k place order over.over.counting own.counting of-a of-b in
      elim (cases_lt b.original.off (a.original.off + a.original_len)) [
        | inl before ↦ elim (cases_lt a.original.off b.original.off) [
          | inl less ↦
              let same = one b.original (record { sec = sym (start_sec ∙ inside.sec); from = omega (arith, less); before = omega (arith, before) }) (record { sec = refl; from = omega arith; before = omega (arith, len, start_off, inside.from, inside.before, before) }) in
              absurd (omega (arith, less, ap (λ (s : Site). s.start.off) same))
          | inr late ↦
              let same = one a.original (record { sec = refl; from = omega arith; before = omega (arith, some) }) (record { sec = start_sec ∙ inside.sec; from = late; before = omega (arith, some, len, start_off, inside.before) }) in
              absurd (omega (arith, inside.before, len, start_off, ap (λ (s : Site). s.start.off) same, ap (λ (s : Site). s.len) same))
        ]
        | inr from ↦ equal_places site.start (behind a.original a.original_len) inside.sec (omega (arith, from, start_off, inside.from))
      ]

  -- behind a run of no-ops in a site comes that site, or the start of another
  behind_run : (q n : ℕ) (site own : Site) → is_plain (point_at o q) ≡ true → Contains (sites_of o) site → Contains (sites_of o) own → InSite own (point_at o q).place
      → n ≤ own.start.off + own.len - (point_at o q).place.off → InSite site (behind (point_at o q).place n)
      → (in_site site (address_at o q) ≡ true) ⊎ (site.start ≡ behind (point_at o q).place n)
  behind_run q n site own is listed own_listed here most inside =
      let point = point_at o q in
      let place = point.place in
      let plain = eqb-true point.variant 0 is in
      elim (cases_lt place.off site.start.off) [
        | inl before ↦ elim (cases_lt site.start.off (place.off + n)) [
          | inl within ↦
              let in_own : InSite own site.start = record { sec = here.sec ∙ sym inside.sec; from = omega (arith, here.from, before); before = omega (arith, within, most, here.before) } in
              let in_site_itself : InSite site site.start = record { sec = refl; from = omega arith; before = omega (arith, inside.before, within) } in
              let same : own ≡ site = sites_apart o lists order own site site.start own_listed listed (is_in_site own site.start in_own) (is_in_site site site.start in_site_itself) in
              absurd (omega (arith, here.from, before, ap (λ (s : Site). s.start.off) same))
          | inr at ↦ inr (equal_places site.start (behind place n) inside.sec (omega (arith, at, inside.from)))
        ]
        | inr late ↦
            let own_place : InSite site place = record { sec = inside.sec; from = late; before = omega (arith, inside.before) } in
            inl (subst (λ (p : Place). in_site site p ≡ true) (sym (address_plain o point plain)) (is_in_site site place own_place))
      ]

  -- where control comes behind a plain point, be it in a site or not
  behind_any : (q : ℕ) (site : Site) → q < point_count o → is_plain (point_at o q) ≡ true → Contains (sites_of o) site
      → in_site site (behind_plain_place o (point_at o q).place (decoded_insn o (point_at o q)) (site_holding o (point_at o q).place)) ≡ true
      → (in_site site (address_at o q) ≡ true) ⊎ (site.start ≡ behind_plain_place o (point_at o q).place (decoded_insn o (point_at o q)) (site_holding o (point_at o q).place))
  unfolding site_holding
  behind_any q site here is listed inside = elim (finds (λ s. in_site s place) (sites_of o)) [
    | inl none ↦ subst Goal (sym none.0) (λ inside. behind_plain q site here is listed (in_site_is site (behind place insn.len) inside)) inside
    | inr one ↦ subst Goal (sym one.1) (λ inside. by_nop one.0 one.2 one.3 (is_short_nop insn) inside) inside
  ]
    where
      place : Place
      place = (point_at o q).place

      insn : Insn
      insn = decoded_insn o (point_at o q)

      Goal : Option Site → Type 0
      Goal held = in_site site (behind_plain_place o place insn held) ≡ true → (in_site site (address_at o q) ≡ true) ⊎ (site.start ≡ behind_plain_place o place insn held)

      by_nop : (own : Site) → Contains (sites_of o) own → in_site own place ≡ true → (b : Bool)
          → in_site site (cond b (behind place (run_from o place own)) (behind place insn.len)) ≡ true
          → (in_site site (address_at o q) ≡ true) ⊎ (site.start ≡ cond b (behind place (run_from o place own)) (behind place insn.len))
      by_nop own own_listed holds true inside =
          behind_run q (run_from o place own) site own is listed own_listed (in_site_is own place holds) (run_within o place own) (in_site_is site (behind place (run_from o place own)) inside)
      by_nop own own_listed holds false inside = behind_plain q site here is listed (in_site_is site (behind place insn.len) inside)

  -- where control comes behind a point into a site, it was in that site or comes to its start
  pub comes_behind : (q : ℕ) (site : Site) → q < point_count o → Contains (sites_of o) site → in_site site (place_behind o (point_at o q)) ≡ true → (in_site site (address_at o q) ≡ true) ⊎ (site.start ≡ place_behind o (point_at o q))
  comes_behind q site here listed inside = by_plain (is_plain (point_at o q)) refl inside
    where
      plain_behind : Place
      plain_behind = behind_plain_place o (point_at o q).place (decoded_insn o (point_at o q)) (site_holding o (point_at o q).place)

      by_plain : (b : Bool) → is_plain (point_at o q) ≡ b → in_site site (cond b plain_behind (site_end o (point_at o q))) ≡ true
          → (in_site site (address_at o q) ≡ true) ⊎ (site.start ≡ cond b plain_behind (site_end o (point_at o q)))
      by_plain true e inside = behind_any q site here e listed inside
      by_plain false e inside = inr (behind_site q site here e listed (in_site_is site (site_end o (point_at o q)) inside))
