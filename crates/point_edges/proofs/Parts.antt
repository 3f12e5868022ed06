-- The targets of a point, part by part.
use Rattle.std.proofs.Common.{◌≡◌, ℕ, Bool, true, false, ◌&&◌, ◌||◌, List, [], ◌++◌, Option, Some, None, refl, sym, ap, ◌∙◌, if◌then◌else◌}
use Rattle.std.specs.Prelude.{is_none, is_some}
use Rattle.std.specs.List.{list_any}
use Rattle.std.proofs.lemmas.List.Folds.{list_any-append}
use Rattle.ot_base.specs.declared.place.Place.{Place}
use Rattle.operation_defs.specs.declared.insn.Insn.{Insn}
use Rattle.flow_defs.specs.Coded.{Coded}
use Rattle.machine_defs.specs.declared.flow.EdgeKind.TheVariants.{Taken, Fixup}
use Rattle.alternatives.specs.declared.point.Point.{Point}
use Rattle.flow_defs.specs.Arrival.{insn_of_object}
use Rattle.flow_defs.specs.Edges.{fixups, static_targets}
use Rattle.flow_defs.specs.Marks.{branch_places, has_bad_target, has_target_in_site, is_bad_branch, is_bad_by, is_bad_listed, listed_places, places_by}
use Rattle.flow_defs.specs.Roles.{returns_through, table_of_point}
use Rattle.flow_defs.specs.Sites.{is_into_site}

-- one of two tests, by the first, and by the second where the first fails
pub or_first : (a first second : Bool) → a ≡ true → a ≡ first → a ≡ (first || second)
or_first a first second holds same = holds ∙ ap (λ b. b || second) (sym holds ∙ same)

pub or_second : (a b first second : Bool) → a ≡ false → a ≡ first → b ≡ second → b ≡ (first || second)
or_second a b first second fails same other = ap (λ t. t || b) (sym fails ∙ same) ∙ ap (λ t. first || t) other

-- one of four parts of a list passes a test
any_of_four : (test : Place → Bool) (a b c d : List Place) → (list_any test a || (list_any test b || (list_any test c || list_any test d))) ≡ list_any test (a ++ (b ++ (c ++ d)))
any_of_four test a b c d =
    ap (λ rest. list_any test a || (list_any test b || rest)) (sym (list_any-append test c d))
    ∙ ap (λ rest. list_any test a || rest) (sym (list_any-append test b (c ++ d)))
    ∙ sym (list_any-append test a (b ++ (c ++ d)))

pub bad_parts : (o : Coded) (point : Point) → (is_bad_branch o point || (is_bad_listed o Taken point (static_targets o point) || is_bad_listed o Fixup point (fixups o point))) ≡ has_bad_target o point
unfolding has_bad_target
bad_parts o point = refl

pub parts_in_site : (o : Coded) (point : Point) → (list_any (is_into_site o point) (branch_places o point) || (list_any (is_into_site o point) (table_of_point o point) || (list_any (is_into_site o point) (listed_places o Taken point (static_targets o point)) || list_any (is_into_site o point) (listed_places o Fixup point (fixups o point))))) ≡ has_target_in_site o point
unfolding has_target_in_site
parts_in_site o point = any_of_four (is_into_site o point) (branch_places o point) (table_of_point o point) (listed_places o Taken point (static_targets o point)) (listed_places o Fixup point (fixups o point))

-- ---- branches that return through code that returns for its caller
-- two tests, by the first where it fails, and else by the second
and_first : (a first second : Bool) → a ≡ false → a ≡ first → a ≡ (first && second)
and_first a first second fails same = fails ∙ ap (λ b. b && second) (sym fails ∙ same)

and_second : (a b first second : Bool) → a ≡ true → a ≡ first → b ≡ second → b ≡ (first && second)
and_second a b first second holds same other = ap (λ t. t && b) (sym holds ∙ same) ∙ ap (λ t. first && t) other

module _ (o : Coded) (point : Point) (insn : Insn) (own : insn ≡ insn_of_object o point) (a : Bool) (through : a ≡ is_none (returns_through o point)) where
  pub bad_through : a ≡ false → a ≡ is_bad_branch o point
  bad_through fails = and_first a _ (is_bad_by o point (insn_of_object o point).op) fails through

  pub bad_unless : (b : Bool) → a ≡ true → b ≡ is_bad_by o point insn.op → b ≡ is_bad_branch o point
  bad_unless b holds bad = and_second a b _ _ holds through (bad ∙ ap (λ (i : Insn). is_bad_by o point i.op) own)

  entering : (x : Option ℕ) (places : List Place) → (is_none x && list_any (is_into_site o point) places) ≡ list_any (is_into_site o point) (if is_some x then [] else places)
  entering None places = refl
  entering (Some sym) places = refl

  pub enters_through : a ≡ false → a ≡ list_any (is_into_site o point) (branch_places o point)
  enters_through fails =
      and_first a _ (list_any (is_into_site o point) (places_by o point (insn_of_object o point).op)) fails through
      ∙ entering (returns_through o point) (places_by o point (insn_of_object o point).op)

  pub enters_unless : (b : Bool) → a ≡ true → b ≡ list_any (is_into_site o point) (places_by o point insn.op) → b ≡ list_any (is_into_site o point) (branch_places o point)
  enters_unless b holds enters =
      and_second a b _ _ holds through (enters ∙ ap (λ (i : Insn). list_any (is_into_site o point) (places_by o point i.op)) own)
      ∙ entering (returns_through o point) (places_by o point (insn_of_object o point).op)
