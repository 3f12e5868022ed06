-- What is found of warnings, put together.
use Rattle.std.proofs.Common.{◌≡◌, ℕ, suc, ◌+◌, ◌<◌, ◌≤◌, List, [], ◌∷◌, ◌++◌, length, map, get_or, Option, Some, None, inl, inr, arith, refl, sym, ap, ◌∙◌, subst, length-append, pos}
use Rattle.std.specs.Prelude.{All, slice_get, ◌≢◌, ℤ}
use Rattle.std.proofs.lemmas.Bool.{cases_lt}
use Rattle.std.proofs.lemmas.List.{get_or-map, get_or_append_left, get_or_default, length-map}
use Rattle.std.proofs.lemmas.List.Elements.{Contains-get_or}
use Rattle.std.proofs.lemmas.Option.{slice_get-get_or}
use Rattle.std.proofs.Math.Seq.{get_or-append_seam}
use Rattle.ot_base.specs.declared.place.Place.{Place}
use Rattle.ot_base.specs.declared.warning.Warning.{Warning}
use Rattle.ot_base.specs.Warnings.{numbered_warning}
use Rattle.ot_base.specs.declared.rules.TheConstants.{STATE_MISMATCH}
use Rattle.state_defs.specs.declared.state.State.{State}
use Rattle.machine_defs.specs.Program.{Program}
use Rattle.machine_defs.specs.Broken.{Warns}
use Rattle.machine_defs.specs.Broken as broken
use Rattle.table_law.proofs.Refusals.{refusal_at}
use Rattle.kept_states.specs.LevelStates.{at}
use Rattle.program_graph.specs.declared.parts.GraphParts.{GraphParts}
use Rattle.command_base.specs.declared.backtrace_cases.Case.{Case}
use Rattle.state_ways.specs.declared.clashes.Clash.{Clash}
use Rattle.state_ways.specs.Clashes.{AreClashes, IsClash, IsNoted}
use Rattle.command_base.specs.declared.backtrace_spots.Spot.{Spot}
use Rattle.command_base.specs.Backtrace.{first_kept, first_point}
use Rattle.command_base.specs.BacktraceCases.{IsCase, IsCaseClash, IsMade, IsWarnedOf, found, none}
use Rattle.command_base.specs.BacktraceSpots.{AreFirst, IsSpot}

abbrev pub AreMade : List Warning → List Spot → List (Option Clash) → List Case → Type 0
AreMade warnings firsts clashes cases = (i : ℕ) (w : Warning) (s : Spot) (c : Case) → i < length cases → IsMade (get_or warnings i w) (get_or firsts i s) (get_or clashes i None) (get_or cases i c)

pub made_more : (warnings : List Warning) (firsts : List Spot) (clashes : List (Option Clash)) (cases more : List Case) (new : Case) (i : ℕ) → length cases ≡ i → AreMade warnings firsts clashes cases → ((w : Warning) (s : Spot) → IsMade (get_or warnings i w) (get_or firsts i s) (get_or clashes i None) new) → more ≡ cases ++ new ∷ []
    → AreMade warnings firsts clashes more
made_more warnings firsts clashes cases more new i len were is same k w s c within =
    let size : length more ≡ length cases + 1 = ap length same ∙ length-append cases (new ∷ []) in
    elim (cases_lt k (length cases)) [
      | inl lower ↦ subst (λ (x : Case). IsMade (get_or warnings k w) (get_or firsts k s) (get_or clashes k None) x) (sym (ap (λ xs. get_or xs k c) same ∙ get_or_append_left cases (new ∷ []) c k lower)) (were k w s c lower)
      | inr behind ↦
          let at : k ≡ length cases = omega (arith, behind, within, size) in
          let here : i ≡ k = sym (at ∙ len) in
          let last : new ≡ get_or more k c = sym (ap (λ n. get_or more n c) at ∙ ap (λ xs. get_or xs (length cases) c) same ∙ get_or-append_seam cases new [] c) in
          subst (λ (x : Case). IsMade (get_or warnings k w) (get_or firsts k s) (get_or clashes k None) x) last
          (subst (λ (n : ℕ). IsMade (get_or warnings n w) (get_or firsts n s) (get_or clashes n None) new) here (is w s))
    ]

-- two lists of one length that have the same everywhere
same_lists : (xs ys : List Warning) (d : Warning) → length xs ≡ length ys → ((i : ℕ) → i < length xs → get_or xs i d ≡ get_or ys i d) → xs ≡ ys
same_lists [] [] d len each = refl
same_lists [] (y ∷ ys) d len each = absurd (omega (arith, len))
same_lists (x ∷ xs) [] d len each = absurd (omega (arith, len))
same_lists (x ∷ xs) (y ∷ ys) d len each =
    let head : x ≡ y = each 0 (omega arith) in
    let tail : xs ≡ ys = same_lists xs ys d (omega (arith, len)) (λ i inside. each (suc i) (omega (arith, inside))) in
    ap (λ (z : Warning). z ∷ xs) head ∙ ap (λ zs. y ∷ zs) tail

pub same_warnings : (warnings : List Warning) (firsts : List Spot) (clashes : List (Option Clash)) (cases : List Case) (w : Warning) (s : Spot) (c : Case) → length cases ≡ length warnings → AreMade warnings firsts clashes cases → map (λ (x : Case). x.warning) cases ≡ warnings
same_warnings warnings firsts clashes cases w s c len made =
    let size : length (map (λ (x : Case). x.warning) cases) ≡ length cases = length-map cases (λ (x : Case). x.warning) in
    same_lists (map (λ (x : Case). x.warning) cases) warnings w (size ∙ len)
    (λ i inside. let within : i < length cases = omega (arith, inside, size) in get_or-map (λ (x : Case). x.warning) cases i c w within ∙ (made i w s c within).warning)

-- where rule 4 warns, a clash is noted
noted_where : (p : Program) (warnings : List Warning) (clashes : List (Option Clash)) → AreClashes p warnings clashes → (place : Place) (rule : ℕ) (a b : ℤ) → Warns p place rule a b → rule ≡ STATE_MISMATCH → IsNoted warnings clashes (numbered_warning place rule a b)
noted_where p warnings clashes are place rule a b (broken.mismatch q r s t u from brings to free other) e = are.all q r s t u from brings to free other
noted_where p warnings clashes are place rule a b (broken.refused q n s k why before) e = let h : 7 ≤ 4 = subst (λ (x : ℕ). 7 ≤ x) e (refusal_at p q s n why) in absurd (omega arith)
noted_where p warnings clashes are place rule a b _ e = absurd (omega arith)

same_parts : (w : Warning) → w ≡ numbered_warning w.place w.rule w.a w.b
same_parts w = refl

-- what is noted for a warning
case_clash : (p : Program) (warnings : List Warning) (clashes : List (Option Clash)) (i : ℕ) (w : Warning) → i < length warnings → length clashes ≡ length warnings → AreClashes p warnings clashes
    → ((get_or warnings i w).rule ≡ STATE_MISMATCH → Warns p (get_or warnings i w).place (get_or warnings i w).rule (get_or warnings i w).a (get_or warnings i w).b)
    → IsCaseClash p (get_or warnings i w) (get_or clashes i None)
case_clash p warnings clashes i w inside len are warns = go (get_or clashes i None) refl
  where
    v : Warning
    v = get_or warnings i w

    at : slice_get warnings i ≡ Some v
    at = slice_get-get_or warnings i w inside

    there : slice_get clashes i ≡ Some (get_or clashes i None)
    there = slice_get-get_or clashes i None (omega (arith, inside, len))

    missing : get_or clashes i None ≡ None → v.rule ≡ STATE_MISMATCH → ⊥
    missing e rule =
        let found = noted_where p warnings clashes are v.place v.rule v.a v.b (warns rule) rule i (at ∙ ap Some (same_parts v)) in
        let same : ◌≡◌ {A = Option (Option Clash)} (Some (get_or clashes i None)) (Some (Some found.0)) = sym there ∙ found.1 in
        cc

    go : (o : Option Clash) → get_or clashes i None ≡ o → IsCaseClash p v o
    go (Some clash) e = found clash (are.each i v clash at (there ∙ ap Some e))
    go None e = none (λ rule. missing e rule)

is_case : (p : Program) (states : ℕ → Option State) (w : Warning) (spot : Spot) (clash : Option Clash) (c : Case) → IsMade w spot clash c → spot.place ≡ w.place → IsSpot p states p.count spot → IsCaseClash p w clash → IsCase p states c
is_case p states w spot clash c made here is noted = record {
  first = made.first ∙ is.first ∙ ap (first_point p) (here ∙ sym (ap (λ (x : Warning). x.place) made.warning));
  kept = made.kept ∙ is.kept ∙ ap (first_kept p states) (here ∙ sym (ap (λ (x : Warning). x.place) made.warning));
  clash = subst (λ (x : Warning). IsCaseClash p x c.clash) (sym made.warning) (subst (λ (o : Option Clash). IsCaseClash p w o) (sym made.clash) noted);
}

pub are_cases : (p : Program) (parts : GraphParts) (kept : List (Option State)) (warnings : List Warning) (firsts : List Spot) (clashes : List (Option Clash)) (cases : List Case) → length cases ≡ length warnings → length firsts ≡ length warnings → length clashes ≡ length warnings → AreMade warnings firsts clashes cases
    → AreFirst p (at kept) warnings firsts → AreClashes p warnings clashes → IsWarnedOf p parts (at kept) warnings → All (IsCase p (at kept)) cases
are_cases p parts kept warnings firsts clashes cases len spots notes made first are warned i c inside =
    let within : i < length warnings = omega (arith, inside, len) in
    let w : Warning = c.warning in
    let s : Spot = record { place = c.warning.place; first = None; kept = None } in
    let at_first = first i w s (omega (arith, within, spots)) in
    is_case p (at kept) (get_or warnings i w) (get_or firsts i s) (get_or clashes i None) (get_or cases i c) (made i w s c inside) at_first.0 at_first.1 (case_clash p warnings clashes i w within notes are (mismatch i w within))
  where
    mismatch : (i : ℕ) (w : Warning) → i < length warnings → (get_or warnings i w).rule ≡ STATE_MISMATCH → Warns p (get_or warnings i w).place (get_or warnings i w).rule (get_or warnings i w).a (get_or warnings i w).b
    mismatch i w within rule = warned.mismatches (get_or warnings i w) (Contains-get_or warnings i w within) rule

-- in place of what isn't there
pub no_warning : Warning
no_warning = record { place = record { sec = 0; off = 0 }; rule = 0; a = pos 0; b = pos 0 }

pub no_spot : Spot
no_spot = record { place = record { sec = 0; off = 0 }; first = None; kept = None }

pub no_case : Case
no_case = record { warning = no_warning; first = None; kept = None; clash = None }
