-- The point in force at a place.
use Rattle.std.proofs.Common.{◌≡◌, ◌≢◌, ◌⊎◌, ℕ, zero, suc, ◌-◌, ◌<◌, ◌≤◌, true, false, List, length, get_or, Contains, inl, inr, arith, refl, ap, sym, ◌∙◌, subst}
use Rattle.std.specs.List.{AllPairs}
use Rattle.std.proofs.lemmas.Bool.{both_ways, cases_lt, cases_order, cases_Bool}
use Rattle.std.proofs.lemmas.List.{get_or_default}
use Rattle.std.proofs.lemmas.List.Elements.{Contains-get_or}
use Rattle.ot_base.specs.declared.place.Place.{Place}
use Rattle.ot_base.specs.Places.{is_before}
use Rattle.stack_rules.specs.Points.{ComesBefore}
use Rattle.machine_defs.specs.Program.{Program}
use Rattle.stack_rules.specs.Disagree.{IsInForceAt}
use Rattle.stack_rules.proofs.Places.{before_through, equal_not_before, neither_before, not_before_equal, not_before_itself, not_both, runs_no_later}

-- x comes behind y at an earlier address, or at y's and of no lesser variant
abbrev pub StandsAside : Program → ℕ → ℕ → Type 0
StandsAside p y x = (is_before (p.address x) (p.address y) ≡ true) ⊎ ((p.address x ≡ p.address y) × (p.variant y ≤ p.variant x))

-- of two that stand aside from one another neither comes first
neither_first : (p : Program) (y z : ℕ) → StandsAside p y z → StandsAside p z y → ComesBefore p y z → ⊥
neither_first p y z (inl h) b (inl k) = not_both (p.address z) (p.address y) h k
neither_first p y z (inr (e, l)) b (inl k) = not_before_equal (p.address y) (p.address z) (sym e) k
neither_first p y z a (inl h) (inr (e, l)) = not_before_equal (p.address y) (p.address z) e h
neither_first p y z a (inr (f, k)) (inr (e, l)) = omega arith

module _ (p : Program) (points : List ℕ) (up : AllPairs (ComesBefore p) points) where
  -- one is in force
  pub one_in_force : (place : Place) (y z : ℕ) → IsInForceAt p points place y → IsInForceAt p points place z → y ≡ z
  one_in_force place y z a b = go a.listed b.listed
    where
      go : Contains points y → Contains points z → y ≡ z
      go (i, l, e) (j, m, f) = elim (cases_order i j) [
        | inl same ↦ sym e ∙ (get_or_default points i y z l ∙ (ap (λ (k : ℕ). get_or points k z) same ∙ f))
        | inr other ↦ elim other [
          | inl lower ↦ absurd (neither_first p y z (a.last z b.listed b.up_to) (b.last y a.listed a.up_to) (subst (λ (x : ℕ). ComesBefore p x z) (get_or_default points i z y l ∙ e) (subst (λ (x : ℕ). ComesBefore p (get_or points i z) x) f (up i j z lower m))))
          | inr lower ↦ absurd (neither_first p z y (b.last y a.listed a.up_to) (a.last z b.listed b.up_to) (subst (λ (x : ℕ). ComesBefore p x y) (get_or_default points j y z m ∙ f) (subst (λ (x : ℕ). ComesBefore p (get_or points j y) x) e (up j i y lower l))))
        ]
      ]

  -- it is the first at the last address up to the place
  pub first_in_force : (place : Place) (n m d : ℕ) → 0 < n → n ≤ length points → m < length points
      → ((k : ℕ) → k < n → is_before place (p.address (get_or points k d)) ≡ false) → ((k : ℕ) → n ≤ k → k < length points → is_before place (p.address (get_or points k d)) ≡ true)
      → ((k : ℕ) → k < m → is_before (p.address (get_or points k d)) (p.address (get_or points (n - 1) d)) ≡ true) → ((k : ℕ) → m ≤ k → k < length points → is_before (p.address (get_or points k d)) (p.address (get_or points (n - 1) d)) ≡ false)
      → IsInForceAt p points place (get_or points m d)
  first_in_force place n m d some within inside up_to behind before from = record {
    listed = Contains-get_or points m d inside;
    up_to = up_to m low_in;
    last = λ x c k. each x c k;
  }
    where
      low : m ≤ n - 1
      low = elim (cases_lt (n - 1) m) [
        | inl above ↦ absurd (not_before_itself (p.address (get_or points (n - 1) d)) (before (n - 1) above))
        | inr l ↦ l
      ]

      low_in : m < n
      low_in = omega (arith, low)

      -- an element between runs at the last address
      at_last : (k : ℕ) → m ≤ k → k < n → p.address (get_or points k d) ≡ p.address (get_or points (n - 1) d)
      at_last k l j = neither_before (p.address (get_or points k d)) (p.address (get_or points (n - 1) d)) (from k l (omega arith)) (runs_no_later p points up k (n - 1) d (omega arith) (omega arith))

      behind_first : (x k : ℕ) → m ≤ k → k < n → get_or points k d ≡ x → StandsAside p (get_or points m d) x
      behind_first x k l j e = inr (
        subst (λ (z : ℕ). p.address z ≡ p.address (get_or points m d)) e (at_last k l j ∙ sym (at_last m (omega arith) low_in)),
        subst (λ (z : ℕ). p.variant (get_or points m d) ≤ p.variant z) e (no_lesser k l j),
      )
        where
          no_lesser : (k : ℕ) → m ≤ k → k < n → p.variant (get_or points m d) ≤ p.variant (get_or points k d)
          no_lesser k l j = elim (cases_lt m k) [
            | inl later ↦ by_order (get_or points m d) (get_or points k d) (up m k d later (omega arith)) (at_last m (omega arith) low_in ∙ sym (at_last k l j))
            | inr same ↦ let e : m ≡ k = omega arith in subst (λ (i : ℕ). p.variant (get_or points m d) ≤ p.variant (get_or points i d)) e (omega arith)
          ]
            where
              by_order : (y z : ℕ) → ComesBefore p y z → p.address y ≡ p.address z → p.variant y ≤ p.variant z
              by_order y z (inl h) e = absurd (not_before_equal (p.address y) (p.address z) e h)
              by_order y z (inr (f, l)) e = omega arith

      each : (x : ℕ) → Contains points x → is_before place (p.address x) ≡ false → StandsAside p (get_or points m d) x
      each x (k, l, e) clear =
          let is : get_or points k d ≡ x = get_or_default points k d x l ∙ e in
          elim (cases_lt k n) [
            | inr past ↦ absurd (both_ways (is_before place (p.address x)) clear (subst (λ (z : ℕ). is_before place (p.address z) ≡ true) is (behind k past l)))
            | inl front ↦ elim (cases_lt k m) [
              | inl earlier ↦ inl (subst (λ (z : Place). is_before (p.address x) z ≡ true) (sym (at_last m (omega arith) low_in)) (subst (λ (z : ℕ). is_before (p.address z) (p.address (get_or points (n - 1) d)) ≡ true) is (before k earlier)))
              | inr later ↦ behind_first x k later front is
            ]
          ]

  -- the first k elements have one in force, or all run behind the place
  record AmongFirst (place : Place) (k d : ℕ) : Type 0 where
    index : ℕ
    low : index < k
    up_to : is_before place (p.address (get_or points index d)) ≡ false
    last : (i : ℕ) → i < k → is_before place (p.address (get_or points i d)) ≡ false → StandsAside p (get_or points index d) (get_or points i d)

  abbrev AllBehind : Place → ℕ → ℕ → Type 0
  AllBehind place k d = (i : ℕ) → i < k → is_before place (p.address (get_or points i d)) ≡ true

  earlier_or_last : (i k : ℕ) → i < suc k → (i < k) ⊎ (k ≡ i)
  earlier_or_last i k l = grind arith

  aside_itself : (x : ℕ) → StandsAside p x x
  aside_itself x = inr (refl, omega arith)

  aside_later : (y x z : ℕ) → StandsAside p y z → is_before (p.address y) (p.address x) ≡ true → is_before (p.address z) (p.address x) ≡ true
  aside_later y x z (inl h) k = before_through (p.address z) (p.address y) (p.address x) h k
  aside_later y x z (inr (e, l)) k = subst (λ (a : Place). is_before a (p.address x) ≡ true) (sym e) k

  among : (place : Place) (k d : ℕ) → k ≤ length points → AmongFirst place k d ⊎ AllBehind place k d
  among place zero d within = inr (λ i l. absurd (omega arith))
  among place (suc k) d within = elim (cases_Bool (is_before place (p.address (get_or points k d)))) [
    | inl behind ↦ elim (among place k d (omega arith)) [
      | inl a ↦ inl (record {
        index = a.index;
        low = let l = a.low in omega arith;
        up_to = a.up_to;
        last = λ i l clear. elim (earlier_or_last i k l) [
          | inl m ↦ a.last i m clear
          | inr e ↦ absurd (both_ways (is_before place (p.address (get_or points k d))) (subst (λ (j : ℕ). is_before place (p.address (get_or points j d)) ≡ false) (sym e) clear) behind)
        ];
      })
      | inr all ↦ inr (λ i l. elim (earlier_or_last i k l) [ inl m ↦ all i m | inr e ↦ subst (λ (j : ℕ). is_before place (p.address (get_or points j d)) ≡ true) e behind ])
    ]
    | inr clear ↦ elim (among place k d (omega arith)) [
      | inl a ↦ inl (with_one a clear (up a.index k d a.low (omega arith)))
      | inr all ↦ inl (record {
        index = k;
        low = omega arith;
        up_to = clear;
        last = λ i l not_behind. elim (earlier_or_last i k l) [
          | inl m ↦ absurd (both_ways (is_before place (p.address (get_or points i d))) not_behind (all i m))
          | inr e ↦ subst (λ (j : ℕ). StandsAside p (get_or points k d) (get_or points j d)) e (aside_itself (get_or points k d))
        ];
      })
    ]
  ]
    where
      with_one : (a : AmongFirst place k d) → is_before place (p.address (get_or points k d)) ≡ false → ComesBefore p (get_or points a.index d) (get_or points k d) → AmongFirst place (suc k) d
      with_one a clear (inl later) = record {
        index = k;
        low = omega arith;
        up_to = clear;
        last = λ i l h. elim (earlier_or_last i k l) [
          | inl m ↦ inl (aside_later (get_or points a.index d) (get_or points k d) (get_or points i d) (a.last i m h) later)
          | inr e ↦ subst (λ (j : ℕ). StandsAside p (get_or points k d) (get_or points j d)) e (aside_itself (get_or points k d))
        ];
      }
      with_one a clear (inr (same, lesser)) = record {
        index = a.index;
        low = let l = a.low in omega arith;
        up_to = a.up_to;
        last = λ i l h. elim (earlier_or_last i k l) [
          | inl m ↦ a.last i m h
          | inr e ↦ subst (λ (j : ℕ). StandsAside p (get_or points a.index d) (get_or points j d)) e (inr (sym same, omega arith))
        ];
      }

  -- where a point runs at a place or before it, one is in force
  pub some_in_force : (place : Place) (x : ℕ) → Contains points x → is_before place (p.address x) ≡ false → (y : ℕ) × IsInForceAt p points place y
  some_in_force place x (k, l, e) clear = elim (among place (length points) x (omega arith)) [
    | inl a ↦ (
      get_or points a.index x,
      record {
        listed = Contains-get_or points a.index x a.low;
        up_to = a.up_to;
        last = λ z (i, m, f) h. let is : get_or points i x ≡ z = get_or_default points i x z m ∙ f in subst (StandsAside p (get_or points a.index x)) is (a.last i m (subst (λ (w : ℕ). is_before place (p.address w) ≡ false) (sym is) h));
      },
    )
    | inr all ↦ absurd (both_ways (is_before place (p.address x)) clear (subst (λ (w : ℕ). is_before place (p.address w) ≡ true) e (all k l)))
  ]

  -- the first at an address is in force there
  pub new_in_force : (i d : ℕ) → i < length points → (0 < i → p.address (get_or points (i - 1) d) ≢ p.address (get_or points i d)) → IsInForceAt p points (p.address (get_or points i d)) (get_or points i d)
  new_in_force i d inside other = record {
    listed = Contains-get_or points i d inside;
    up_to = equal_not_before here here refl;
    last = λ r (k, l, e) clear.
        let is : get_or points k d ≡ r = get_or_default points k d r l ∙ e in
        subst (StandsAside p (get_or points i d)) is (each k l (subst (λ (q : ℕ). is_before here (p.address q) ≡ false) (sym is) clear));
  }
    where
      here : Place
      here = p.address (get_or points i d)

      earlier_last : (q r : ℕ) → ComesBefore p q r → p.address q ≢ p.address r → is_before (p.address q) (p.address r) ≡ true
      earlier_last q r (inl h) differ = h
      earlier_last q r (inr e) differ = absurd (differ e.0)

      earlier_first : (q r : ℕ) → ComesBefore p q r → is_before (p.address r) here ≡ true → is_before (p.address q) here ≡ true
      earlier_first q r (inl h) l = before_through (p.address q) (p.address r) here h l
      earlier_first q r (inr e) l = subst (λ (a : Place). is_before a here ≡ true) (sym e.0) l

      earlier : (k : ℕ) → k < i → is_before (p.address (get_or points k d)) here ≡ true
      earlier k l =
          let last : is_before (p.address (get_or points (i - 1) d)) here ≡ true = earlier_last (get_or points (i - 1) d) (get_or points i d) (up (i - 1) i d (omega arith) inside) (other (omega arith)) in
          elim (cases_lt k (i - 1)) [
            | inl lower ↦ earlier_first (get_or points k d) (get_or points (i - 1) d) (up k (i - 1) d lower (omega arith)) last
            | inr same ↦ let e : i - 1 ≡ k = omega arith in subst (λ (m : ℕ). is_before (p.address (get_or points m d)) here ≡ true) e last
          ]

      later : (q r : ℕ) → ComesBefore p q r → is_before (p.address q) (p.address r) ≡ false → StandsAside p q r
      later q r (inl h) clear = absurd (both_ways (is_before (p.address q) (p.address r)) clear h)
      later q r (inr (e, l)) clear = inr (sym e, omega arith)

      each : (k : ℕ) → k < length points → is_before here (p.address (get_or points k d)) ≡ false → StandsAside p (get_or points i d) (get_or points k d)
      each k l clear = elim (cases_lt k i) [
        | inl lower ↦ inl (earlier k lower)
        | inr from ↦ elim (cases_lt i k) [
          | inl behind ↦ later (get_or points i d) (get_or points k d) (up i k d behind l) clear
          | inr same ↦ let e : i ≡ k = omega arith in subst (λ (j : ℕ). StandsAside p (get_or points i d) (get_or points j d)) e (aside_itself (get_or points i d))
        ]
      ]
