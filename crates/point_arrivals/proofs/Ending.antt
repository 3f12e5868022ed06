-- Dead ends, what owns the points that follow, and where entries at a point lead.
use Rattle.std.proofs.Common.{◌≡◌, ℕ, ◌<◌, Bool, true, false, not, ◌&&◌, ◌||◌, List, [], ◌∷◌, length, map, filter, if◌then◌else◌, Some, refl, sym, ap, ◌∙◌, arith}
use Rattle.std.specs.List.{list_all}
use Rattle.ot_base.specs.declared.place.Place.{Place}
use Rattle.ot_base.specs.Places.{same_place}
use Rattle.flow_defs.specs.Coded.{Coded}
use Rattle.special_sections.specs.declared.entries.BranchEntry.{BranchEntry}
use Rattle.special_sections.specs.declared.entries.FixEntry.{FixEntry}
use Rattle.special_sections.specs.Special.{special_of}
use Rattle.alternatives.specs.declared.point.Point.{Point}
use Rattle.flow_defs.specs.Tables.{same_owner}
use Rattle.flow_defs.specs.Arrival.{decoded_insn, ends_at, goes_on_behind, is_dead_end, is_padding, is_ud2}
use Rattle.flow_defs.specs.Code.{point_at}
use Rattle.flow_defs.specs.Edges.{fixups, static_targets}
use Rattle.flow_defs.specs.Owners.{owner_of_point}
use Rattle.object_points.specs.Places.{targets_of}
use Rattle.point_arrivals.specs.Lists.{branch_pairs_of, fix_pairs_of}

-- ---- dead ends
pub dead_end_is : (o : Coded) (p : Point) (padding reached ud2 unreached : Bool) → padding ≡ is_padding o p → reached ≡ ends_at o p (special_of o.elf).after_reachable → ud2 ≡ is_ud2 (decoded_insn o p).op → unreached ≡ ends_at o p (special_of o.elf).after_unreachable → (not padding && (not reached && (ud2 || unreached))) ≡ is_dead_end o p
unfolding is_dead_end
dead_end_is o p padding reached ud2 unreached is_pad is_reached is_ud is_unreached =
    ap (λ b. not b && (not reached && (ud2 || unreached))) is_pad
    ∙ ap (λ b. not (is_padding o p) && (not b && (ud2 || unreached))) is_reached
    ∙ ap (λ b. not (is_padding o p) && (not (ends_at o p (special_of o.elf).after_reachable) && (b || unreached))) is_ud
    ∙ ap (λ b. not (is_padding o p) && (not (ends_at o p (special_of o.elf).after_reachable) && (is_ud2 (decoded_insn o p).op || b))) is_unreached

-- padding is passed
pub padding_passes : (o : Coded) (p : Point) (padding : Bool) → padding ≡ is_padding o p → padding ≡ true → false ≡ is_dead_end o p
padding_passes o p padding is passes =
    dead_end_is o p true (ends_at o p (special_of o.elf).after_reachable) (is_ud2 (decoded_insn o p).op) (ends_at o p (special_of o.elf).after_unreachable) (sym passes ∙ is) refl refl refl

-- so is what neither is a Ud2 nor ends where code doesn't go on
never : (padding reached : Bool) → (not padding && (not reached && false)) ≡ false
never true reached = refl
never false true = refl
never false false = refl

pub other_passes : (o : Coded) (p : Point) (may : Bool) → may ≡ (is_ud2 (decoded_insn o p).op || ends_at o p (special_of o.elf).after_unreachable) → may ≡ false → false ≡ is_dead_end o p
unfolding is_dead_end
other_passes o p may is passes =
    sym (never (is_padding o p) (ends_at o p (special_of o.elf).after_reachable))
    ∙ ap (λ b. not (is_padding o p) && (not (ends_at o p (special_of o.elf).after_reachable) && b)) (sym passes ∙ is)

-- anything else ends unless it ends at a reachable place
alone : (b : Bool) → b ≡ (true && (b && true))
alone true = refl
alone false = refl

pub unless_reached : (o : Coded) (p : Point) (may padding reached : Bool) → may ≡ (is_ud2 (decoded_insn o p).op || ends_at o p (special_of o.elf).after_unreachable) → may ≡ true → padding ≡ is_padding o p → padding ≡ false → reached ≡ ends_at o p (special_of o.elf).after_reachable → not reached ≡ is_dead_end o p
unfolding is_dead_end
unless_reached o p may padding reached may_is may_end is other reach =
    alone (not reached)
    ∙ ap (λ b. not b && (not reached && true)) (sym other ∙ is)
    ∙ ap (λ b. not (is_padding o p) && (not b && true)) reach
    ∙ ap (λ b. not (is_padding o p) && (not (ends_at o p (special_of o.elf).after_reachable) && b)) (sym may_end ∙ may_is)

-- ---- what owns the points that follow
abbrev pub has_owner : Coded → ℕ → ℕ → Bool
has_owner o owner q = same_owner (owner_of_point o (point_at o q)) (Some owner)

pub one_other : (o : Coded) (p : Point) (owner : ℕ) (next : List ℕ) → list_all (has_owner o owner) next ≡ false → false ≡ goes_on_behind o p (Some owner) next
one_other o p owner [] other = refl
one_other o p owner (q ∷ next) other = sym other

pub none_follow : (o : Coded) (p : Point) (owner : ℕ) (next : List ℕ) → length next ≡ 0 → false ≡ goes_on_behind o p (Some owner) next
none_follow o p owner [] none = refl
none_follow o p owner (q ∷ next) none = absurd (omega arith)

pub all_own : (o : Coded) (p : Point) (owner : ℕ) (next : List ℕ) → 0 < length next → list_all (has_owner o owner) next ≡ true → true ≡ goes_on_behind o p (Some owner) next
all_own o p owner [] some own = absurd (omega arith)
all_own o p owner (q ∷ next) some own = sym own

-- ---- where entries lead
branches_map : (branches : List BranchEntry) (place : Place) → targets_of (branch_pairs_of branches) place ≡ map (λ (b : BranchEntry). b.target) (filter (λ (b : BranchEntry). same_place b.code place) branches)
branches_map [] place = refl
branches_map (b ∷ branches) place = by (same_place b.code place) (branches_map branches place)
  where
    by : (here : Bool) → targets_of (branch_pairs_of branches) place ≡ map (λ (x : BranchEntry). x.target) (filter (λ (x : BranchEntry). same_place x.code place) branches)
        → map (λ (e : Place × Place). e.1) (if here then (b.code, b.target) ∷ filter (λ (e : Place × Place). same_place e.0 place) (branch_pairs_of branches) else filter (λ (e : Place × Place). same_place e.0 place) (branch_pairs_of branches))
        ≡ map (λ (x : BranchEntry). x.target) (if here then b ∷ filter (λ (x : BranchEntry). same_place x.code place) branches else filter (λ (x : BranchEntry). same_place x.code place) branches)
    by true rest = ap (λ ts. b.target ∷ ts) rest
    by false rest = rest

fixes_map : (fixes : List FixEntry) (place : Place) → targets_of (fix_pairs_of fixes) place ≡ map (λ (f : FixEntry). f.fixup) (filter (λ (f : FixEntry). same_place f.insn place) fixes)
fixes_map [] place = refl
fixes_map (f ∷ fixes) place = by (same_place f.insn place) (fixes_map fixes place)
  where
    by : (here : Bool) → targets_of (fix_pairs_of fixes) place ≡ map (λ (x : FixEntry). x.fixup) (filter (λ (x : FixEntry). same_place x.insn place) fixes)
        → map (λ (e : Place × Place). e.1) (if here then (f.insn, f.fixup) ∷ filter (λ (e : Place × Place). same_place e.0 place) (fix_pairs_of fixes) else filter (λ (e : Place × Place). same_place e.0 place) (fix_pairs_of fixes))
        ≡ map (λ (x : FixEntry). x.fixup) (if here then f ∷ filter (λ (x : FixEntry). same_place x.insn place) fixes else filter (λ (x : FixEntry). same_place x.insn place) fixes)
    by true rest = ap (λ ts. f.fixup ∷ ts) rest
    by false rest = rest

pub no_targets : (o : Coded) (p : Point) → is_padding o p ≡ true → [] ≡ static_targets o p
no_targets o p padding = sym (ap (λ b. if b then [] else map (λ (b : BranchEntry). b.target) (filter (λ (b : BranchEntry). same_place b.code p.place) (special_of o.elf).branches)) padding)

pub targets_are : (o : Coded) (p : Point) → is_padding o p ≡ false → targets_of (branch_pairs_of (special_of o.elf).branches) p.place ≡ static_targets o p
targets_are o p other =
    branches_map (special_of o.elf).branches p.place
    ∙ sym (ap (λ b. if b then [] else map (λ (b : BranchEntry). b.target) (filter (λ (b : BranchEntry). same_place b.code p.place) (special_of o.elf).branches)) other)

pub no_fixups : (o : Coded) (p : Point) → is_padding o p ≡ true → [] ≡ fixups o p
no_fixups o p padding = sym (ap (λ b. if b then [] else map (λ (f : FixEntry). f.fixup) (filter (λ (f : FixEntry). same_place f.insn p.place) (special_of o.elf).fixes)) padding)

pub fixups_are : (o : Coded) (p : Point) → is_padding o p ≡ false → targets_of (fix_pairs_of (special_of o.elf).fixes) p.place ≡ fixups o p
fixups_are o p other =
    fixes_map (special_of o.elf).fixes p.place
    ∙ sym (ap (λ b. if b then [] else map (λ (f : FixEntry). f.fixup) (filter (λ (f : FixEntry). same_place f.insn p.place) (special_of o.elf).fixes)) other)
