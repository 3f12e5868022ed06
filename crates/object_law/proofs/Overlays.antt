-- How the instructions of replacements, and the padding behind them, lie over their originals.
use Rattle.std.proofs.Common.{◌≡◌, ◌+◌, ◌-◌, ◌<◌, ◌≤◌, true, false, cond, sym, ap, ◌∙◌, arith}
use Rattle.std.specs.Prelude.{nat_le, nat_lt, ◌==◌, ◌&&◌}
use Rattle.std.proofs.lemmas.Bool.{eqb-true, false≢true, leb-true, ltb-true}
use Rattle.ot_base.specs.Places.{same_place}
use Rattle.operation_defs.specs.declared.insn.Insn.{Insn}
use Rattle.flow_defs.specs.Coded.{Coded}
use Rattle.special_sections.specs.declared.entries.AltEntry.{AltEntry}
use Rattle.alternatives.specs.declared.point.Point.{Point}
use Rattle.alternatives.specs.Originals.{counts}
use Rattle.alternatives.specs.Points.{address_of_point, entry_of}
use Rattle.alternatives.specs.Texts.{behind, is_cut}
use Rattle.flow_defs.specs.Code.{alternatives_of, texts_of}
use Rattle.object_law.specs.Flows.{ObjectIsInOrder}
use Rattle.object_law.proofs.Bodies.{IsAt, at_lies, before_cut, before_other}
use Rattle.object_law.proofs.EntryFacts.{IsEntryOf, entry_is}
use Rattle.object_law.proofs.Levels.{and_true}
use Rattle.object_law.proofs.PointKinds.{PointIs}

-- the entry whose replacement a point belongs to
abbrev pub own_entry : Coded → Point → AltEntry
own_entry o point = entry_of (alternatives_of o) point.variant

-- a point of the code as it is assembled runs at its place
pub address_plain : (o : Coded) (point : Point) → point.variant ≡ 0 → address_of_point (alternatives_of o) point ≡ point.place
address_plain o point plain = ap (λ v. cond (v == 0) point.place (behind (entry_of (alternatives_of o) v).original (point.place.off - (entry_of (alternatives_of o) v).replacement.off))) plain

-- any other lies in its replacement or right behind it, has a byte, and ends in the original
pub record Overlays (o : Coded) (point : Point) (insn : Insn) : Type 0 where
  pub counting : counts (own_entry o point) ≡ true
  pub address : address_of_point (alternatives_of o) point ≡ behind (own_entry o point).original (point.place.off - (own_entry o point).replacement.off)
  pub sec : (own_entry o point).replacement.sec ≡ point.place.sec
  pub from : (own_entry o point).replacement.off ≤ point.place.off
  pub upto : point.place.off ≤ (own_entry o point).replacement.off + (own_entry o point).replacement_len
  pub some : 1 ≤ insn.len
  pub ends : point.place.off - (own_entry o point).replacement.off + insn.len ≤ (own_entry o point).original_len

other_address : (o : Coded) (point : Point) → (point.variant == 0) ≡ false → address_of_point (alternatives_of o) point ≡ behind (own_entry o point).original (point.place.off - (own_entry o point).replacement.off)
other_address o point other = ap (λ b. cond b point.place (behind (own_entry o point).original (point.place.off - (own_entry o point).replacement.off))) other

-- an instruction of a replacement ends in it
record EndsInside (o : Coded) (point : Point) (insn : Insn) : Type 0 where
  sec : (own_entry o point).replacement.sec ≡ point.place.sec
  from : (own_entry o point).replacement.off ≤ point.place.off
  some : 1 ≤ insn.len
  within : point.place.off + insn.len ≤ (own_entry o point).replacement.off + (own_entry o point).replacement_len

ends_inside : (o : Coded) (point : Point) (insn : Insn) → IsEntryOf o (own_entry o point)
    → ((own_entry o point).replacement.sec == point.place.sec && (nat_le (own_entry o point).replacement.off point.place.off && nat_lt point.place.off ((own_entry o point).replacement.off + (own_entry o point).replacement_len))) ≡ true
    → IsAt o point.place insn → EndsInside o point insn
ends_inside o point insn entry inside at =
    let a = own_entry o point in
    let parts = and_true (a.replacement.sec == point.place.sec) _ inside in
    let sec : a.replacement.sec ≡ point.place.sec = eqb-true a.replacement.sec point.place.sec parts.0 in
    let bounds = and_true (nat_le a.replacement.off point.place.off) (nat_lt point.place.off (a.replacement.off + a.replacement_len)) parts.1 in
    let before = ltb-true point.place.off (a.replacement.off + a.replacement_len) bounds.1 in
    record {
      sec = sec;
      from = leb-true a.replacement.off point.place.off bounds.0;
      some = (at_lies o point.place insn at).some;
      within = before_cut o point.place (behind a.replacement a.replacement_len) insn at entry.replacement_end (sym sec) before;
    }

-- padding stands right behind a replacement that is shorter than its original
record StandsBehind (o : Coded) (point : Point) : Type 0 where
  short : (own_entry o point).replacement_len < (own_entry o point).original_len
  sec : point.place.sec ≡ (own_entry o point).replacement.sec
  off : point.place.off ≡ (own_entry o point).replacement.off + (own_entry o point).replacement_len

stands_behind : (o : Coded) (point : Point)
    → (nat_lt (own_entry o point).replacement_len (own_entry o point).original_len && (same_place point.place (behind (own_entry o point).replacement (own_entry o point).replacement_len) && is_cut (texts_of o) point.place)) ≡ true
    → StandsBehind o point
stands_behind o point padded =
    let a = own_entry o point in
    let parts = and_true (nat_lt a.replacement_len a.original_len) (same_place point.place (behind a.replacement a.replacement_len) && is_cut (texts_of o) point.place) padded in
    let place = and_true (same_place point.place (behind a.replacement a.replacement_len)) (is_cut (texts_of o) point.place) parts.1 in
    let fields = and_true (point.place.sec == a.replacement.sec) _ place.0 in
    record { short = ltb-true a.replacement_len a.original_len parts.0; sec = eqb-true point.place.sec a.replacement.sec fields.0; off = eqb-true point.place.off (a.replacement.off + a.replacement_len) fields.1 }

not_plain : {P : Type 0} (point : Point) → (point.variant == 0) ≡ false → point.variant ≡ 0 → P
not_plain point other plain = absurd (false≢true (sym other ∙ ap (λ v. v == 0) plain))

pub overlays : (o : Coded) (point : Point) (insn : Insn) → ObjectIsInOrder o → (point.variant == 0) ≡ false → PointIs o point insn → Overlays o point insn
overlays o point _ order other (PointIs.plain insn plain at) = not_plain point other plain
overlays o point _ order other (PointIs.replaced insn _ counting inside at) =
    let entry = entry_is o (point.variant - 1) order counting in
    let own = ends_inside o point insn entry inside at in
    record { counting = counting; address = other_address o point other; sec = own.sec; from = own.from; upto = omega (arith, own.within); some = own.some; ends = omega (arith, own.from, own.within, entry.short) }
overlays o point _ order other (PointIs.padding _ counting padded) =
    let own = stands_behind o point padded in
    record { counting = counting; address = other_address o point other; sec = sym own.sec; from = omega (arith, own.off); upto = omega (arith, own.off); some = omega (arith, own.short); ends = omega (arith, own.off, own.short) }

-- the point of the code as it is assembled is an instruction of it
pub plain_at : (o : Coded) (point : Point) (insn : Insn) → point.variant ≡ 0 → PointIs o point insn → IsAt o point.place insn
plain_at o point _ plain (PointIs.plain insn _ at) = at
plain_at o point _ plain (PointIs.replaced insn other counting inside at) = not_plain point other plain
plain_at o point _ plain (PointIs.padding other counting padded) = not_plain point other plain

-- of two points of one replacement the one that stands first ends where the other begins, or before
pub one_behind_other : (o : Coded) (point next : Point) (insn insn' : Insn) → ObjectIsInOrder o → (point.variant == 0) ≡ false → point.variant ≡ next.variant
    → PointIs o point insn → PointIs o next insn' → point.place.off < next.place.off → point.place.off + insn.len ≤ next.place.off
one_behind_other o point next _ insn' order other same (PointIs.plain insn plain at) also before = not_plain point other plain
one_behind_other o point next _ insn' order other same (PointIs.padding _ counting padded) also before =
    let own = stands_behind o point padded in
    let over = overlays o next insn' order (ap (λ v. v == 0) (sym same) ∙ other) also in
    let entries = alternatives_of o in
    absurd (omega (arith, own.off, over.upto, before, ap (λ v. (entry_of entries v).replacement.off) same, ap (λ v. (entry_of entries v).replacement_len) same))
one_behind_other o point next _ _ order other same (PointIs.replaced insn _ counting inside at) (PointIs.plain insn' plain at') before = not_plain point other (same ∙ plain)
one_behind_other o point next _ _ order other same (PointIs.replaced insn _ counting inside at) (PointIs.padding other' counting' padded) before =
    let own = ends_inside o point insn (entry_is o (point.variant - 1) order counting) inside at in
    let behind = stands_behind o next padded in
    let entries = alternatives_of o in
    omega (arith, own.within, behind.off, ap (λ v. (entry_of entries v).replacement.off) same, ap (λ v. (entry_of entries v).replacement_len) same)
one_behind_other o point next _ _ order other same (PointIs.replaced insn _ counting inside at) (PointIs.replaced insn' other' counting' inside' at') before =
    let own = ends_inside o point insn (entry_is o (point.variant - 1) order counting) inside at in
    let behind = ends_inside o next insn' (entry_is o (next.variant - 1) order counting') inside' at' in
    let entries = alternatives_of o in
    before_other o point.place next.place insn insn' at at' (sym own.sec ∙ (ap (λ v. (entry_of entries v).replacement.sec) same ∙ behind.sec)) before
