-- The numbers of the places of warnings.
use Rattle.std.proofs.Common.{◌≡◌, ℕ, ◌+◌, ◌-◌, ◌<◌, ◌≤◌, false, List, [], ◌∷◌, ◌++◌, length, get_or, inl, inr, arith, sym, ap, ◌∙◌, subst, length-append}
use Rattle.std.specs.Prelude.{AllPairs, Option}
use Rattle.std.proofs.lemmas.Bool.{cases_lt}
use Rattle.std.proofs.lemmas.List.{get_or_append_left, get_or_default}
use Rattle.std.proofs.Math.Seq.{get_or-append_seam}
use Rattle.ot_base.specs.declared.place.Place.{Place}
use Rattle.ot_base.specs.declared.warning.Warning.{Warning}
use Rattle.ot_base.specs.Places.{is_before}
use Rattle.state_defs.specs.declared.state.State.{State}
use Rattle.machine_defs.specs.Program.{Program}
use Rattle.stack_rules.specs.Before.{ComesBefore}
use Rattle.command_base.specs.declared.backtrace_spots.Spot.{Spot}
use Rattle.command_base.specs.BacktraceSpots.{AreFirst, ArePicked, AreSpots, HaveNumbers, IsSpot}
use Rattle.command_base.proofs.PlaceOrder.{in_order}

-- the next warning isn't before the last place
pub not_behind : (warnings : List Warning) (spots : List Spot) (i : ℕ) (w : Warning) (d : Spot) → AllPairs ComesBefore warnings → 0 < i → i < length warnings → (get_or spots (length spots - 1) d).place ≡ (get_or warnings (i - 1) w).place
    → is_before (get_or warnings i w).place (get_or spots (length spots - 1) d).place ≡ false
not_behind warnings spots i w d ascend some inside last =
    ap (λ (x : Place). is_before (get_or warnings i w).place x) last ∙ in_order (get_or warnings (i - 1) w) (get_or warnings i w) (ascend (i - 1) i w (omega (arith, some)) inside)

-- the place of the last warning is the last place
pub last_stays : (warnings : List Warning) (spots : List Spot) (number i : ℕ) (v w : Warning) (d : Spot) → i < length warnings → number + 1 ≡ length spots → ((d : Spot) → (get_or spots number d).place ≡ (get_or warnings i v).place) → (get_or spots (length spots - 1) d).place ≡ (get_or warnings (i + 1 - 1) w).place
last_stays warnings spots number i v w d inside last place =
    let at : length spots - 1 ≡ number = omega (arith, last) in
    let here : i + 1 - 1 ≡ i = omega arith in
    ap (λ k. (get_or spots k d).place) at ∙ place d ∙ ap (λ (x : Warning). x.place) (get_or_default warnings i v w inside) ∙ ap (λ k. (get_or warnings k w).place) (sym here)

-- one number more
pub numbers_more : (warnings : List Warning) (old spots : List Spot) (numbers more : List ℕ) (number i : ℕ) (v : Warning) → HaveNumbers warnings old numbers → length numbers ≡ i → i < length warnings → length old ≤ length spots
    → ((k : ℕ) (d : Spot) → k < length old → get_or spots k d ≡ get_or old k d) → number + 1 ≡ length spots → ((d : Spot) → (get_or spots number d).place ≡ (get_or warnings i v).place) → more ≡ numbers ++ number ∷ []
    → HaveNumbers warnings spots more
numbers_more warnings old spots numbers more number i v were len inside grown stays last place is k w d within =
    let size : length more ≡ length numbers + 1 = ap length is ∙ length-append numbers (number ∷ []) in
    elim (cases_lt k (length numbers)) [
      | inl lower ↦
          let same : get_or more k 0 ≡ get_or numbers k 0 = ap (λ xs. get_or xs k 0) is ∙ get_or_append_left numbers (number ∷ []) 0 k lower in
          let old_place = were k w d lower in (
            omega (arith, same, old_place.0, grown),
            ap (λ n. (get_or spots n d).place) same ∙ ap (λ (x : Spot). x.place) (stays (get_or numbers k 0) d old_place.0) ∙ old_place.1,
          )
      | inr behind ↦
          let at : k ≡ length numbers = omega (arith, behind, within, size) in
          let same : get_or more k 0 ≡ number = ap (λ n. get_or more n 0) at ∙ ap (λ xs. get_or xs (length numbers) 0) is ∙ get_or-append_seam numbers number [] 0 in
          let here : k ≡ i = at ∙ len in (
            omega (arith, same, last),
            ap (λ n. (get_or spots n d).place) same ∙ place d ∙ ap (λ (x : Warning). x.place) (get_or_default warnings i v w inside) ∙ ap (λ n. (get_or warnings n w).place) (sym here),
          )
    ]

-- one more is picked
pub picked_more : (spots : List Spot) (numbers : List ℕ) (picked more : List Spot) (n : ℕ) (d0 : Spot) → ((i : ℕ) → i < length numbers → get_or numbers i 0 < length spots) → n < length numbers → length picked ≡ n
    → ((i : ℕ) (d : Spot) → i < length picked → get_or picked i d ≡ get_or spots (get_or numbers i 0) d) → more ≡ picked ++ get_or spots (get_or numbers n 0) d0 ∷ []
    → (i : ℕ) (d : Spot) → i < length more → get_or more i d ≡ get_or spots (get_or numbers i 0) d
picked_more spots numbers picked more n d0 within inside len were is i d here =
    let new : Spot = get_or spots (get_or numbers n 0) d0 in
    let size : length more ≡ length picked + 1 = ap length is ∙ length-append picked (new ∷ []) in
    elim (cases_lt i (length picked)) [
      | inl lower ↦ ap (λ xs. get_or xs i d) is ∙ get_or_append_left picked (new ∷ []) d i lower ∙ were i d lower
      | inr behind ↦
          let at : i ≡ length picked = omega (arith, behind, here, size) in
          let same : n ≡ i = sym (at ∙ len) in
          ap (λ k. get_or more k d) at ∙ ap (λ xs. get_or xs (length picked) d) is ∙ get_or-append_seam picked new [] d
          ∙ get_or_default spots (get_or numbers n 0) d0 d (within n inside) ∙ ap (λ k. get_or spots (get_or numbers k 0) d) same
    ]

-- by warning what was picked is what was found at its place
pub are_first : (p : Program) (states : ℕ → Option State) (warnings : List Warning) (old spots picked : List Spot) (numbers : List ℕ) → HaveNumbers warnings old numbers → length spots ≡ length old → ((k : ℕ) (d : Spot) → (get_or spots k d).place ≡ (get_or old k d).place)
    → AreSpots p states p.count spots → ArePicked spots numbers picked → AreFirst p states warnings picked
are_first p states warnings old spots picked numbers have len places are chosen i w d inside =
    let at = have i w d (omega (arith, inside, chosen.len)) in (
      ap (λ (x : Spot). x.place) (chosen.each i d inside) ∙ places (get_or numbers i 0) d ∙ at.1,
      subst (λ (x : Spot). IsSpot p states p.count x) (sym (chosen.each i d inside)) (are (get_or numbers i 0) d (omega (arith, at.0, len))),
    )
