-- The run of the meanings of one SAVE.
use Rattle.std.proofs.Common.{◌≡◌, ℕ, ◌+◌, ◌-◌, ◌<◌, ◌≤◌, true, false, ltb, leb, List, length, get_or, drop, map, Contains, inl, inr, sym, ap, ◌∙◌, arith, length-drop}
use Rattle.std.specs.Prelude.{slice_range}
use Rattle.std.proofs.lemmas.Bool.{cases_lt, leb-false, leb-true, ltb-false, ltb-true}
use Rattle.std.proofs.lemmas.List.{get_or-drop, get_or-map, get_or-take, length-map, length-take}
use Rattle.object_points.specs.declared.meanings.Meaning.{Meaning}
use Rattle.object_points.specs.Meanings.{IsRunOf}

abbrev none : Meaning
none = record { save = 0; restore = 0 }

-- where the meanings of lower SAVEs end, and where those of this one do
pub run_of : (meanings : List Meaning) (save from to : ℕ) → from ≤ length meanings → to ≤ length meanings
    → ((k : ℕ) (d : Meaning) → k < from → ltb (get_or meanings k d).save save ≡ true)
    → ((k : ℕ) (d : Meaning) → from ≤ k → k < length meanings → ltb (get_or meanings k d).save save ≡ false)
    → ((k : ℕ) (d : Meaning) → k < to → leb (get_or meanings k d).save save ≡ true)
    → ((k : ℕ) (d : Meaning) → to ≤ k → k < length meanings → leb (get_or meanings k d).save save ≡ false)
    → IsRunOf meanings save from to
run_of meanings save from to from_within to_within lower not_lower up_to higher = record {
  order = elim (cases_lt to from) [
    | inl less ↦
        let below : (get_or meanings to none).save < save = ltb-true _ _ (lower to none less) in
        let above : save < (get_or meanings to none).save = leb-false _ _ (higher to none (omega arith) (omega arith)) in
        omega arith
    | inr fine ↦ fine
  ];
  within = to_within;
  below = λ k d h. ltb-true (get_or meanings k d).save save (lower k d h);
  here = λ k d behind inside.
      let low : save ≤ (get_or meanings k d).save = ltb-false _ _ (not_lower k d behind (omega arith)) in
      let high : (get_or meanings k d).save ≤ save = leb-true _ _ (up_to k d inside) in
      omega arith;
  above = λ k d behind inside. leb-false (get_or meanings k d).save save (higher k d behind inside);
}

-- a meaning by its parts
meaning_is : (m : Meaning) (save restore : ℕ) → m.save ≡ save → m.restore ≡ restore → m ≡ record { save = save; restore = restore }
meaning_is m save restore one other =
    let first : ◌≡◌ {A = Meaning} m (record { save = save; restore = m.restore }) = ap (λ (n : ℕ). let x : Meaning = record { save = n; restore = m.restore } in x) one in
    first ∙ ap (λ (n : ℕ). let x : Meaning = record { save = save; restore = n } in x) other

-- the RESTOREs of a run are those of the meanings of its SAVE
module _ (meanings : List Meaning) (save from to : ℕ) (run : IsRunOf meanings save from to) where
  abbrev restores : List ℕ
  restores = map (λ (m : Meaning). m.restore) meanings

  part_length : length (slice_range restores from to) ≡ to - from
  part_length = omega (arith, length-take (to - from) (drop from restores), length-drop from restores, length-map meanings (λ (m : Meaning). m.restore), run.within, run.order)

  part_at : (k d : ℕ) (e : Meaning) → k < to - from → get_or (slice_range restores from to) k d ≡ (get_or meanings (from + k) e).restore
  part_at k d e inside =
      get_or-take (to - from) (drop from restores) k d inside
      ∙ get_or-drop from restores k d
      ∙ get_or-map (λ (m : Meaning). m.restore) meanings (from + k) e d (omega (arith, run.within, inside))

  pub restore_meant : (r : ℕ) → Contains (slice_range restores from to) r → Contains meanings (record { save = save; restore = r })
  restore_meant r listed =
      let k : ℕ = listed.0 in
      let m : Meaning = record { save = save; restore = r } in
      let inside : k < to - from = omega (arith, part_length, listed.1) in
      let one : Meaning = get_or meanings (from + k) m in
      (from + k, omega (arith, run.within, inside), meaning_is one save r (run.here (from + k) m (omega arith) (omega (arith, inside))) (sym (part_at k r m inside) ∙ listed.2))

  pub meant_restore : (r : ℕ) → Contains meanings (record { save = save; restore = r }) → Contains (slice_range restores from to) r
  meant_restore r listed =
      let i : ℕ = listed.0 in
      let m : Meaning = record { save = save; restore = r } in
      let here : (get_or meanings i m).save ≡ save = ap (λ (x : Meaning). x.save) listed.2 in
      let behind : from ≤ i = elim (cases_lt i from) [ inl less ↦ absurd (omega (arith, here, run.below i m less)) | inr fine ↦ fine ] in
      let inside : i < to = elim (cases_lt i to) [ inl less ↦ less | inr fine ↦ absurd (omega (arith, here, run.above i m fine listed.1)) ] in
      let same : from + (i - from) ≡ i = omega arith in
      (i - from, omega (arith, part_length), part_at (i - from) r m (omega arith) ∙ ap (λ n. (get_or meanings n m).restore) same ∙ ap (λ (x : Meaning). x.restore) listed.2)
