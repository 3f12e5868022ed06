-- The rules that are listed while instructions are followed are those that aren't the one before.
use Rattle.std.proofs.Common.{◌≡◌, ◌≢◌, ℕ, ℤ, zero, suc, ◌+◌, ◌-◌, ◌<◌, ◌≤◌, ◌⊎◌, Bool, true, false, cond, List, [], ◌∷◌, ◌++◌, map, length, Option, Some, None, refl, sym, ◌∙◌, ap, subst, inl, inr, arith, append_assoc, append-nil}
use Rattle.std.specs.Prelude.{◌==◌, ◌&&◌, ◌||◌, not, filter}
use Rattle.std.specs.List.{range_with_len}
use Rattle.std.specs.Ordering.{int_eq}
use Rattle.std.proofs.lemmas.Bool.{lt-ltb, le-ltb, ne_eqb, and_from, cases_eq, eqb-true, eq-eqb}
use Rattle.std.proofs.lemmas.Bool.Decides.{Decides-int_eq}
use Rattle.std.proofs.Math.Dec.{ltb}
use Rattle.eh_frame.specs.declared.rule.CfaReg.{CfaReg}
use Rattle.eh_frame.specs.declared.rule.CfaReg.TheVariants.{Rsp, Rbp}
use Rattle.eh_frame.specs.declared.rule.CfaRule.{CfaRule}
use Rattle.eh_frame.specs.declared.rule.CfaRule.TheVariants.{Undefined, Cfa}
use Rattle.eh_frame.specs.declared.rule.PlacedRule.{PlacedRule}
use Rattle.eh_frame.specs.declared.instruction.Instruction.{Instruction}
use Rattle.eh_frame.specs.declared.state.FrameState.{FrameState}
use Rattle.eh_frame.specs.declared.rules.Followed.{Followed}
use Rattle.eh_frame.specs.Rules.{first_state, after, moves, moves_all, followed, rule_of, rule_at, listed, is_new, same_reg, same_saved, same_rule}
use Rattle.eh_frame.specs.Followed.{first_followed, moved_on, moved_rules, newly, is_last}

-- A rule is the same as itself.

same_reg-refl : (reg : CfaReg) → same_reg reg reg ≡ true
same_reg-refl Rsp = refl
same_reg-refl Rbp = refl

int_eq-refl : (x : ℤ) → int_eq x x ≡ true
int_eq-refl x = (Decides-int_eq x x).1 refl

same_saved-refl : (bp : Option ℤ) → same_saved bp bp ≡ true
same_saved-refl None = refl
same_saved-refl (Some x) = int_eq-refl x

pub same_rule-refl : (rule : CfaRule) → same_rule rule rule ≡ true
same_rule-refl Undefined = refl
same_rule-refl (Cfa reg off bp) = and_from _ _ (and_from _ _ (same_reg-refl reg) (int_eq-refl off)) (same_saved-refl bp)

-- The rules from an offset on that aren't the one before, which is given.
news : ℕ → (ℕ → CfaRule) → Option CfaRule → ℕ → ℕ → List PlacedRule
news sec rules last from zero = []
news sec rules last from (suc n) = newly sec from last (rules from) ++ news sec rules (Some (rules from)) (from + 1) n

placed : ℕ → (ℕ → CfaRule) → ℕ → PlacedRule
placed sec rules off = record { place = record { sec = sec; off = off }; rule = rules off }

listed_from : ℕ → (ℕ → CfaRule) → ℕ → ℕ → List PlacedRule
unfolding placed
listed_from sec rules from n = map (placed sec rules) (filter (is_new rules) (range_with_len from n))

later_new : (rules : ℕ → CfaRule) (k : ℕ) (last : CfaRule) → 0 < k → last ≡ rules (k - 1) → is_new rules k ≡ not (same_rule (rules k) last)
later_new rules k last h e = let z : (k == 0) ≡ false = ne_eqb k 0 (λ e. omega arith) in rw (z, e) refl

news_listed : (sec : ℕ) (rules : ℕ → CfaRule) (n k : ℕ) (last : CfaRule) → 0 < k → last ≡ rules (k - 1) → news sec rules (Some last) k n ≡ listed_from sec rules k n
unfolding news listed_from placed
news_listed sec rules zero k last h e = refl
news_listed sec rules (suc n) k last h e =
    let back : k + 1 - 1 ≡ k = omega arith in
    let further : news sec rules (Some (rules k)) (k + 1) n ≡ listed_from sec rules (k + 1) n = news_listed sec rules n (k + 1) (rules k) (omega arith) (ap rules (sym back)) in
    go (same_rule (rules k) last) refl (later_new rules k last h e) further
  where
    go : (b : Bool) → same_rule (rules k) last ≡ b → is_new rules k ≡ not (same_rule (rules k) last) → news sec rules (Some (rules k)) (k + 1) n ≡ listed_from sec rules (k + 1) n → news sec rules (Some last) k (suc n) ≡ listed_from sec rules k (suc n)
    go true s new further = let new' : is_new rules k ≡ false = new ∙ ap not s in rw (s, new') further
    go false s new further = let new' : is_new rules k ≡ true = new ∙ ap not s in rw (s, new') (ap (λ rs. placed sec rules k ∷ rs) further)

listed_news : (sec size : ℕ) (rules : ℕ → CfaRule) → listed sec size rules ≡ news sec rules None 0 size
unfolding news listed listed_from placed
listed_news sec zero rules = refl
listed_news sec (suc n) rules = ap (λ rs. placed sec rules 0 ∷ rs) (sym (news_listed sec rules n 1 (rules 0) (omega arith) refl))

-- only what rules are from there on counts
news_same : (sec : ℕ) (f g : ℕ → CfaRule) (last : Option CfaRule) (from n : ℕ) → ((off : ℕ) → from ≤ off → off < from + n → f off ≡ g off) → news sec f last from n ≡ news sec g last from n
unfolding news
news_same sec f g last from zero same = refl
news_same sec f g last from (suc n) same =
    let here : f from ≡ g from = same from (omega arith) (omega arith) in
    ap (λ (r : CfaRule). newly sec from last r ++ news sec f (Some r) (from + 1) n) here
    ∙ ap (λ rs. newly sec from last (g from) ++ rs) (news_same sec f g (Some (g from)) (from + 1) n (λ off h k. same off (omega arith) (omega arith)))

-- rules that are the same below a size are listed alike
pub listed_same : (sec size : ℕ) (f g : ℕ → CfaRule) → ((off : ℕ) → off < size → f off ≡ g off) → listed sec size f ≡ listed sec size g
listed_same sec size f g same = listed_news sec size f ∙ news_same sec f g None 0 size (λ off h k. same off (omega arith)) ∙ sym (listed_news sec size g)

-- behind the first, the offsets that have one rule aren't new
news_skip : (sec : ℕ) (g : ℕ → CfaRule) (r : CfaRule) (from m n : ℕ) → ((off : ℕ) → from ≤ off → off < from + m → g off ≡ r) → news sec g (Some r) from (m + n) ≡ news sec g (Some r) (from + m) n
unfolding news
news_skip sec g r from zero n same =
    let none : 0 + n ≡ n = omega arith in
    let here : from + 0 ≡ from = omega arith in
    rw (none, here) refl
news_skip sec g r from (suc m) n same =
    let more : suc m + n ≡ suc (m + n) = omega arith in
    let is : g from ≡ r = same from (omega arith) (omega arith) in
    let known = same_rule-refl r in
    let at : from + 1 + m ≡ from + suc m = omega arith in
    ap (λ k. news sec g (Some r) from k) more
    ∙ step is known
    ∙ news_skip sec g r (from + 1) m n (λ off h k. same off (omega arith) (omega arith))
    ∙ ap (λ k. news sec g (Some r) k n) at
  where
    step : g from ≡ r → same_rule r r ≡ true → news sec g (Some r) from (suc (m + n)) ≡ news sec g (Some r) (from + 1) (m + n)
    step is known = rw (is, known) refl

-- the same from an offset with any rule before it
news_step : (sec : ℕ) (g : ℕ → CfaRule) (last : Option CfaRule) (r : CfaRule) (from m n : ℕ) → ((off : ℕ) → from ≤ off → off < from + m → g off ≡ r) → news sec g last from (m + n) ≡ cond (m == 0) [] (newly sec from last r) ++ news sec g (cond (m == 0) last (Some r)) (from + m) n
unfolding news
news_step sec g last r from zero n same =
    let none : 0 + n ≡ n = omega arith in
    let here : from + 0 ≡ from = omega arith in
    rw (none, here) refl
news_step sec g last r from (suc m) n same =
    let more : suc m + n ≡ suc (m + n) = omega arith in
    let is : g from ≡ r = same from (omega arith) (omega arith) in
    let at : from + 1 + m ≡ from + suc m = omega arith in
    let some : (suc m == 0) ≡ false = ne_eqb (suc m) 0 (λ e. omega arith) in
    rw some
    (ap (λ k. news sec g last from k) more
    ∙ first is
    ∙ ap (λ rs. newly sec from last r ++ rs) (news_skip sec g r (from + 1) m n (λ off h k. same off (omega arith) (omega arith)) ∙ ap (λ k. news sec g (Some r) k n) at))
  where
    first : g from ≡ r → news sec g last from (suc (m + n)) ≡ newly sec from last r ++ news sec g (Some r) (from + 1) (m + n)
    first is = rw is refl

-- The rules that are listed behind a location that was reached.
unfoldable pub lists : ℕ → ℕ → List Instruction → Followed → List PlacedRule
lists sec size [] f = moved_rules sec (size - f.location) f
lists sec size (i ∷ is) f = moved_rules sec (moves i) f ++ lists sec size is (moved_on (moves i) (after i f.state) f)

rules_from : List Instruction → Followed → ℕ → CfaRule
rules_from is f off = rule_of (followed is f.location f.state off)

lists_news : (sec size : ℕ) (is : List Instruction) (f : Followed) → f.location + moves_all is ≤ size → lists sec size is f ≡ news sec (rules_from is f) f.last f.location (size - f.location)
unfolding lists rules_from news
lists_news sec size [] f h =
    let all : size - f.location + 0 ≡ size - f.location = omega arith in
    sym (ap (λ k. news sec (rules_from [] f) f.last f.location k) (sym all)
    ∙ news_step sec (rules_from [] f) f.last (rule_of f.state) f.location (size - f.location) 0 (λ off h k. refl)
    ∙ ended)
  where
    ended : cond (size - f.location == 0) [] (newly sec f.location f.last (rule_of f.state)) ++ news sec (rules_from [] f) (cond (size - f.location == 0) f.last (Some (rule_of f.state))) (f.location + (size - f.location)) 0 ≡ moved_rules sec (size - f.location) f
    ended = append-nil (moved_rules sec (size - f.location) f)
lists_news sec size (i ∷ is) f h =
    let next : Followed = moved_on (moves i) (after i f.state) f in
    let room : size - f.location ≡ moves i + (size - (f.location + moves i)) = omega arith in
    sym (ap (λ k. news sec (rules_from (i ∷ is) f) f.last f.location k) room
    ∙ news_step sec (rules_from (i ∷ is) f) f.last (rule_of f.state) f.location (moves i) (size - (f.location + moves i)) here
    ∙ ap (λ rs. moved_rules sec (moves i) f ++ rs) (news_same sec (rules_from (i ∷ is) f) (rules_from is next) next.last (f.location + moves i) (size - (f.location + moves i)) (λ off low high. there off low) ∙ sym (lists_news sec size is next (omega arith))))
  where
    here : (off : ℕ) → f.location ≤ off → off < f.location + moves i → rules_from (i ∷ is) f off ≡ rule_of f.state
    here off low high = let below : ltb off (f.location + moves i) ≡ true = lt-ltb off (f.location + moves i) high in rw below refl

    there : (off : ℕ) → f.location + moves i ≤ off → rules_from (i ∷ is) f off ≡ rules_from is (moved_on (moves i) (after i f.state) f) off
    there off low = let above : ltb off (f.location + moves i) ≡ false = le-ltb off (f.location + moves i) low in rw above refl

-- from a section's beginning on these are the rules that an entry says
pub lists_listed : (sec size : ℕ) (is : List Instruction) → moves_all is ≤ size → lists sec size is first_followed ≡ listed sec size (rule_at is)
unfolding rule_at rules_from
lists_listed sec size is h =
    let all : size - 0 ≡ size = omega arith in
    lists_news sec size is first_followed (omega arith) ∙ ap (λ k. news sec (rules_from is first_followed) None 0 k) all ∙ sym (listed_news sec size (rule_at is))
