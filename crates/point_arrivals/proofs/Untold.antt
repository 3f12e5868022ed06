-- Points are straight where no list says anything of their places.
use Rattle.std.proofs.Common.{◌≡◌, ℕ, Bool, true, false, not, eqb, ◌&&◌, ◌||◌, List, [], ◌∷◌, ◌++◌, map, filter, if◌then◌else◌, refl, sym, ap, ◌∙◌, arith}
use Rattle.std.proofs.lemmas.Bool.{false≢true}
use Rattle.std.proofs.lemmas.Bool.Decides.{nat_tests}
use Rattle.ot_base.specs.declared.place.Place.{Place}
use Rattle.ot_base.specs.Places.{same_place}
use Rattle.special_sections.specs.declared.entries.BranchEntry.{BranchEntry}
use Rattle.special_sections.specs.declared.entries.FixEntry.{FixEntry}
use Rattle.special_sections.specs.Special.{special_of}
use Rattle.alternatives.specs.declared.point.Point.{Point}
use Rattle.operation_defs.specs.declared.op.Op.{Op}
use Rattle.operation_defs.specs.declared.op.Op.TheVariants.{Ud2}
use Rattle.flow_defs.specs.Coded.{Coded}
use Rattle.flow_defs.specs.Marks.{has_relocated_offset}
use Rattle.flow_defs.specs.Arrival.{decoded_insn, ends_at, is_dead_end, is_padding, is_ud2}
use Rattle.flow_defs.specs.Code.{is_plain, point_at}
use Rattle.flow_defs.specs.Edges.{fixups, is_some_place, static_targets}
use Rattle.object_points.specs.Places.{is_among, HaveSamePlaces}
use Rattle.point_arrivals.specs.Kinds.{kind_of}
use Rattle.point_arrivals.specs.Lists.{branch_places_of, fix_places_of, original_places_of, told_places_of}
use Rattle.point_arrivals.specs.Marks.{is_listed}
use Rattle.point_arrivals.specs.Straight.{end_of, ends_at_next, is_before_next, is_next_at, is_straight_insn, is_straight_op, may_begin_run}
use Rattle.point_arrivals.proofs.Ending.{other_passes}
use Rattle.point_arrivals.proofs.KindOf.{kind_by, kind_is}

-- what isn't among two lists is in neither
among_neither : (xs ys : List Place) (place : Place) → is_among (xs ++ ys) place ≡ false → (is_among xs place ≡ false) × (is_among ys place ≡ false)
among_neither [] ys place none = (refl, none)
among_neither (x ∷ xs) ys place none = by (same_place place x) (among_neither xs ys place) none
  where
    by : (here : Bool) → (is_among (xs ++ ys) place ≡ false → (is_among xs place ≡ false) × (is_among ys place ≡ false)) → (here || is_among (xs ++ ys) place) ≡ false → ((here || is_among xs place) ≡ false) × (is_among ys place ≡ false)
    by true rest h = absurd (false≢true (sym h))
    by false rest h = rest h

-- of a place that isn't told
record IsUntold (o : Coded) (place : Place) : Type 0 where
  original : is_among (original_places_of (special_of o.elf).alternatives) place ≡ false
  unreachable : is_among (special_of o.elf).after_unreachable place ≡ false
  branch : is_among (branch_places_of (special_of o.elf).branches) place ≡ false
  fix : is_among (fix_places_of (special_of o.elf).fixes) place ≡ false

untold : (o : Coded) (told : List Place) (place : Place) → HaveSamePlaces (told_places_of o) told → is_among told place ≡ false → IsUntold o place
untold o told place same none =
    let first = among_neither (original_places_of (special_of o.elf).alternatives) ((special_of o.elf).after_unreachable ++ (branch_places_of (special_of o.elf).branches ++ fix_places_of (special_of o.elf).fixes)) place (sym (same.same place) ∙ none) in
    let second = among_neither (special_of o.elf).after_unreachable (branch_places_of (special_of o.elf).branches ++ fix_places_of (special_of o.elf).fixes) place first.1 in
    let third = among_neither (branch_places_of (special_of o.elf).branches) (fix_places_of (special_of o.elf).fixes) place second.1 in record {
      original = first.0;
      unreachable = second.0;
      branch = third.0;
      fix = third.1;
    }

-- no entry stands at such a place
other_place : (a b c d : ℕ) → (eqb a c && eqb b d) ≡ false → (eqb c a && eqb d b) ≡ false
other_place a b c d other = grind (arith, nat_tests)

no_branch : (branches : List BranchEntry) (place : Place) → is_among (branch_places_of branches) place ≡ false → filter (λ (b : BranchEntry). same_place b.code place) branches ≡ []
no_branch [] place none = refl
no_branch (b ∷ branches) place none = by (same_place place b.code) refl (no_branch branches place) none
  where
    by : (here : Bool) → same_place place b.code ≡ here → (is_among (branch_places_of branches) place ≡ false → filter (λ (x : BranchEntry). same_place x.code place) branches ≡ []) → (here || is_among (branch_places_of branches) place) ≡ false → filter (λ (x : BranchEntry). same_place x.code place) (b ∷ branches) ≡ []
    by true is rest h = absurd (false≢true (sym h))
    by false is rest h =
        ap (λ t. if t then b ∷ filter (λ (x : BranchEntry). same_place x.code place) branches else filter (λ (x : BranchEntry). same_place x.code place) branches) (other_place place.sec place.off b.code.sec b.code.off is)
        ∙ rest h

no_fix : (fixes : List FixEntry) (place : Place) → is_among (fix_places_of fixes) place ≡ false → filter (λ (f : FixEntry). same_place f.insn place) fixes ≡ []
no_fix [] place none = refl
no_fix (f ∷ fixes) place none = by (same_place place f.insn) refl (no_fix fixes place) none
  where
    by : (here : Bool) → same_place place f.insn ≡ here → (is_among (fix_places_of fixes) place ≡ false → filter (λ (x : FixEntry). same_place x.insn place) fixes ≡ []) → (here || is_among (fix_places_of fixes) place) ≡ false → filter (λ (x : FixEntry). same_place x.insn place) (f ∷ fixes) ≡ []
    by true is rest h = absurd (false≢true (sym h))
    by false is rest h =
        ap (λ t. if t then f ∷ filter (λ (x : FixEntry). same_place x.insn place) fixes else filter (λ (x : FixEntry). same_place x.insn place) fixes) (other_place place.sec place.off f.insn.sec f.insn.off is)
        ∙ rest h

abbrev no_places : List Place
no_places = []

neither : (b : Bool) → is_some_place (if b then [] else no_places) ≡ false
neither true = refl
neither false = refl

no_targets : (o : Coded) (p : Point) → IsUntold o p.place → is_some_place (static_targets o p) ≡ false
no_targets o p none =
    ap (λ (bs : List BranchEntry). is_some_place (if is_padding o p then [] else map (λ (b : BranchEntry). b.target) bs)) (no_branch (special_of o.elf).branches p.place none.branch)
    ∙ neither (is_padding o p)

no_fixups : (o : Coded) (p : Point) → IsUntold o p.place → is_some_place (fixups o p) ≡ false
no_fixups o p none =
    ap (λ (fs : List FixEntry). is_some_place (if is_padding o p then [] else map (λ (f : FixEntry). f.fixup) fs)) (no_fix (special_of o.elf).fixes p.place none.fix)
    ∙ neither (is_padding o p)

-- a straight instruction is no Ud2
other_op : (op : Op) → is_straight_op op ≡ true → is_ud2 op ≡ false
other_op Ud2 straight = absurd (false≢true straight)
other_op op straight = refl

pub straight_passes : (o : Coded) (n : ℕ) → is_straight_insn o n ≡ true → is_ud2 (decoded_insn o (point_at o n)).op ≡ false
straight_passes o n is =
    let p : Point = point_at o n in
    other_op (decoded_insn o p).op (by (is_plain p) (is_straight_op (decoded_insn o p).op) (not (has_relocated_offset o p (decoded_insn o p))) is)
  where
    by : (plain straight still : Bool) → (plain && (straight && still)) ≡ true → straight ≡ true
    by true true still h = refl
    by true false still h = h
    by false straight still h = absurd (false≢true h)

-- nor does a point end there that is no Ud2
module _ (o : Coded) (n : ℕ) (told : List Place) (same : HaveSamePlaces (told_places_of o) told) (other : is_ud2 (decoded_insn o (point_at o n)).op ≡ false) (here : is_among told (point_at o n).place ≡ false) (behind : is_among told (end_of o n) ≡ false) (no_run : may_begin_run o (point_at o n) ≡ false) where
  passes : is_dead_end o (point_at o n) ≡ false
  passes =
      sym (other_passes o (point_at o n) false (sym (ap (λ b. b || ends_at o (point_at o n) (special_of o.elf).after_unreachable) other ∙ (untold o told (end_of o n) same behind).unreachable)) refl)

  unlisted : is_listed o (point_at o n) ≡ false
  unlisted =
      ap (λ b. b || (is_some_place (fixups o (point_at o n)) || is_dead_end o (point_at o n))) (no_targets o (point_at o n) (untold o told (point_at o n).place same here))
      ∙ ap (λ b. b || is_dead_end o (point_at o n)) (no_fixups o (point_at o n) (untold o told (point_at o n).place same here))
      ∙ passes

  next : (b : Bool) → (is_plain (point_at o n) && is_next_at o n (end_of o n)) ≡ b → ends_at_next o n ≡ b
  next b is =
      ap (λ a. is_plain (point_at o n) && (not a && is_before_next o n)) no_run
      ∙ ap (λ a. is_plain (point_at o n) && (is_next_at o n (end_of o n) && not a)) (untold o told (end_of o n) same behind).original
      ∙ with_true (is_plain (point_at o n)) (is_next_at o n (end_of o n))
      ∙ is
    where
      with_true : (a c : Bool) → (a && (c && true)) ≡ (a && c)
      with_true true true = refl
      with_true true false = refl
      with_true false c = refl

  pub followed_untold : (straight : Bool) → (is_plain (point_at o n) && is_next_at o n (end_of o n)) ≡ true → is_straight_insn o n ≡ straight → kind_by false true straight ≡ kind_of o n
  followed_untold straight plain insn = kind_is o n true straight unlisted (next true plain) insn
