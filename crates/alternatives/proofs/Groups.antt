-- One more site, of the originals that begin at one place.
use Rattle.std.proofs.Common.{◌≡◌, ◌⊎◌, ℕ, ◌+◌, ◌-◌, ◌<◌, ◌≤◌, true, false, ◌&&◌, eqb, List, [], ◌∷◌, ◌++◌, length, get_or, All, inl, inr, arith, refl, sym, ap, ◌∙◌, subst, length-append}
use Rattle.std.proofs.lemmas.Bool.{cases_lt, eq-eqb}
use Rattle.std.proofs.lemmas.Bool.Decides.{eqb_tells}
use Rattle.std.proofs.lemmas.List.{get_or_default, get_or_append_left}
use Rattle.std.proofs.lemmas.List.Elements.{All-push}
use Rattle.std.proofs.Math.Seq.{get_or-append_seam}
use Rattle.ot_base.specs.declared.place.Place.{Place}
use Rattle.ot_base.specs.Places.{same_place}
use Rattle.alternatives.specs.declared.original.Original.{Original}
use Rattle.alternatives.specs.declared.site.AlternativesSite.{AlternativesSite}
use Rattle.alternatives.specs.Sites.{EndsBefore, AscendApart, FillFrom}
use Rattle.alternatives.specs.Sorted.{AreByPlace, NoneMeet, GroupsOf}
use Rattle.alternatives.proofs.Meets.{earlier, ends, same, ApartTwo, apart_pair}

-- two places that are tested to be one are one
pub one_place : (p q : Place) → same_place p q ≡ true → p ≡ q
one_place p q h =
    elim (eqb_tells p.sec q.sec) [
      | inr (unlike, differ) ↦ let false' : same_place p q ≡ false = ap (λ b. b && eqb p.off q.off) unlike in absurd (let bad : false ≡ true = sym false' ∙ h in cc)
      | inl (alike, secs) ↦ elim (eqb_tells p.off q.off) [
        | inr (unlike, differ) ↦ let false' : same_place p q ≡ false = ap (λ b. b && eqb p.off q.off) alike ∙ unlike in absurd (let bad : false ≡ true = sym false' ∙ h in cc)
        | inl (alike', offs) ↦
            let first : p ≡ record { sec = q.sec; off = p.off } = ap (λ s. let r : Place = record { sec = s; off = p.off } in r) secs in
            first ∙ ap (λ o. let r : Place = record { sec = q.sec; off = o } in r) offs
      ]
    ]

fill_push : (from first end : ℕ) (sites : List AlternativesSite) (s : AlternativesSite) → FillFrom from sites first → s.first ≡ first → s.count ≡ end - first → first < end → FillFrom from (sites ++ s ∷ []) end
fill_push from first end [] s fill is n some = (is ∙ sym fill, (omega arith, omega arith))
fill_push from first end (r ∷ sites) s fill is n some = (fill.0, (fill.1.0, fill_push (from + r.count) first end sites s fill.1.1 is n some))

module _ (os : List Original) (order : AreByPlace os) (apart : NoneMeet os) (some : All (λ o. 0 < o.len) os) (first end : ℕ) (inside : first < length os) (behind : first < end) (within : end ≤ length os) (alike : (k : ℕ) (d : Original) → first ≤ k → k < end → same_place (get_or os k d).place (get_or os first d).place ≡ true) (other : end < length os → (d : Original) → same_place (get_or os end d).place (get_or os first d).place ≡ false) (d0 : Original) where
  abbrev pub site : AlternativesSite
  site = record { start = (get_or os first d0).place; len = (get_or os first d0).len; first = first; count = end - first }

  start_at : (d : Original) → get_or os first d ≡ get_or os first d0
  start_at d = get_or_default os first d d0 inside

  one_len : (x y : Original) → 0 < x.len → ApartTwo x y → y.place ≡ x.place → y.len ≡ x.len
  one_len x y long (earlier h) is = let s : y.place.sec ≡ x.place.sec = ap (λ (p : Place). p.sec) is in absurd (omega arith)
  one_len x y long (ends h i) is = let s : y.place.off ≡ x.place.off = ap (λ (p : Place). p.off) is in absurd (omega arith)
  one_len x y long (same h i j) is = sym j

  same_len : (k : ℕ) (d : Original) → first ≤ k → k < end → (get_or os k d).len ≡ (get_or os first d).len
  same_len k d from to =
      elim (cases_lt first k) [
        | inl lower ↦ one_len (get_or os first d) (get_or os k d) (some first d inside) (apart_pair os order apart some d first k lower (omega arith)) (one_place _ _ (alike k d from to))
        | inr last ↦ let is : k ≡ first = omega arith in ap (λ j. (get_or os j d).len) is
      ]

  of_site : (k : ℕ) (d : Original) → site.first ≤ k → k < site.first + site.count → ((get_or os k d).place ≡ site.start) × ((get_or os k d).len ≡ site.len)
  of_site k d from to =
      let to' : k < end = omega arith in
      (one_place _ _ (alike k d from to') ∙ ap (λ (o : Original). o.place) (start_at d), same_len k d from to' ∙ ap (λ (o : Original). o.len) (start_at d))

  strictly : (x e y : Original) → 0 < x.len → same_place e.place x.place ≡ false → ApartTwo x e → (ApartTwo e y ⊎ (e ≡ y)) → ApartTwo x y → EndsBefore x.place x.len y.place
  strictly x e y long differ xe ey (earlier h) = inl h
  strictly x e y long differ xe ey (ends h i) = inr (h, i)
  strictly x e y long differ xe ey (same h i j) = absurd (never xe ey)
    where
      differs : x.place.sec ≡ e.place.sec → x.place.off ≡ e.place.off → ⊥
      differs s o =
          let is : same_place e.place x.place ≡ same_place x.place x.place = ap (λ n. eqb n x.place.sec && eqb e.place.off x.place.off) (sym s) ∙ ap (λ n. eqb x.place.sec x.place.sec && eqb n x.place.off) (sym o) in
          let bad : false ≡ true = sym differ ∙ is ∙ one x.place in cc
        where
          one : (p : Place) → same_place p p ≡ true
          one p = ap (λ b. b && eqb p.off p.off) (eq-eqb p.sec p.sec refl) ∙ eq-eqb p.off p.off refl

      never : ApartTwo x e → (ApartTwo e y ⊎ (e ≡ y)) → ⊥
      never (earlier a) (inl (earlier b)) = omega arith
      never (earlier a) (inl (ends b c)) = omega arith
      never (earlier a) (inl (same b c g)) = omega arith
      never (earlier a) (inr is) = let s : e.place.sec ≡ y.place.sec = ap (λ (o : Original). o.place.sec) is in omega arith
      never (ends a z) (inl (earlier b)) = omega arith
      never (ends a z) (inl (ends b c)) = omega arith
      never (ends a z) (inl (same b c g)) = omega arith
      never (ends a z) (inr is) = let s : e.place.off ≡ y.place.off = ap (λ (o : Original). o.place.off) is in omega arith
      never (same a z w) rest = differs a z

  new_behind : (k : ℕ) (d : Original) → end ≤ k → k < length os → EndsBefore site.start site.len (get_or os k d).place
  new_behind k d from to =
      let x : Original = get_or os first d in
      let e : Original = get_or os end d in
      let y : Original = get_or os k d in
      let ey : ApartTwo e y ⊎ (e ≡ y) = elim (cases_lt end k) [
        | inl lower ↦ inl (apart_pair os order apart some d end k lower to)
        | inr last ↦ let is : end ≡ k = omega arith in inr (ap (λ j. get_or os j d) is)
      ] in
      subst (λ (o : Original). EndsBefore o.place o.len y.place) (start_at d)
      (strictly x e y (some first d inside) (other (omega arith) d) (apart_pair os order apart some d first end behind (omega arith)) ey (apart_pair os order apart some d first k (omega arith) to))

  module _ (sites : List AlternativesSite) (groups : GroupsOf os sites first) (before : All (λ s. (k : ℕ) (d : Original) → first ≤ k → k < length os → EndsBefore s.start s.len (get_or os k d).place) sites) where
    more_apart : AscendApart (sites ++ site ∷ [])
    more_apart i j d lower to =
        let len : length (sites ++ site ∷ []) ≡ length sites + 1 = length-append sites (site ∷ []) in
        let i_is : get_or (sites ++ site ∷ []) i d ≡ get_or sites i d = get_or_append_left sites (site ∷ []) d i (omega arith) in
        elim (cases_lt j (length sites)) [
          | inl old ↦
              let j_is : get_or (sites ++ site ∷ []) j d ≡ get_or sites j d = get_or_append_left sites (site ∷ []) d j old in
              rw (i_is, j_is) (groups.apart i j d lower old)
          | inr last ↦
              let is : j ≡ length sites = omega arith in
              let j_is : get_or (sites ++ site ∷ []) j d ≡ site = ap (λ n. get_or (sites ++ site ∷ []) n d) is ∙ get_or-append_seam sites site [] d in
              rw (i_is, j_is) (before i d (omega arith) first d0 (omega arith) inside)
        ]

    pub more_groups : GroupsOf os (sites ++ site ∷ []) end
    more_groups = record {
      fill = fill_push 0 first end sites site groups.fill refl refl behind;
      alike = All-push (λ s. (k : ℕ) (d : Original) → s.first ≤ k → k < s.first + s.count → ((get_or os k d).place ≡ s.start) × ((get_or os k d).len ≡ s.len)) sites site groups.alike of_site;
      apart = more_apart;
    }

    pub more_behind : All (λ s. (k : ℕ) (d : Original) → end ≤ k → k < length os → EndsBefore s.start s.len (get_or os k d).place) (sites ++ site ∷ [])
    more_behind = All-push (λ s. (k : ℕ) (d : Original) → end ≤ k → k < length os → EndsBefore s.start s.len (get_or os k d).place) sites site (λ i d into k e from to. before i d into k e (omega arith) to) new_behind
