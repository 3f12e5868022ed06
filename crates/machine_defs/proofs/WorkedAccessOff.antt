-- Where no option's rule warns.
use Rattle.std.proofs.Common.{◌≡◌, ◌≢◌, ℕ, zero, suc, ◌<◌, Bool, true, false, Some, None, [], ◌∷◌, Contains, ℤ, refl, sym, ap, subst, ◌∙◌, arith}
use Rattle.ot_base.specs.declared.place.Place.{Place}
use Rattle.ot_base.specs.declared.rules.TheConstants.{ACCESS_OFF_TWICE, POPF_WITH_ACCESS_TRACKED}
use Rattle.machine_defs.specs.declared.flow.Edge.{Edge}
use Rattle.machine_defs.specs.declared.flow.EdgeKind.TheVariants.{Next}
use Rattle.machine_defs.specs.Program.{entry_points, edge}
use Rattle.machine_defs.specs.Kept.{edges_of}
use Rattle.machine_defs.specs.Worked.{at}
use Rattle.machine_defs.specs.Access.{access_along, Reached, entered, hinted, called, along}
use Rattle.machine_defs.specs.AccessRules.{AccessWarns}
use Rattle.machine_defs.specs.AccessRules as rules
use Rattle.machine_defs.specs.WorkedAccess.{accessed, one_safe}

-- no two points stand at one place
same_point : (q r : ℕ) → at q ≡ at r → q ≡ r
same_point q r e = ap (λ (place : Place). place.off) e

-- one edge leads on from a point
only : (n : ℕ) (e : Edge) → Contains (edge n Next ∷ []) e → e ≡ edge n Next
only n e (zero, below, is) = sym is
only n e (suc k, below, is) = absurd (omega (arith, below))

other : (n m : ℕ) (e : Edge) → Contains (edge n Next ∷ []) e → e.to ≡ m → n ≢ m → ⊥
other n m e c to apart = apart (let same : e ≡ edge n Next = only n e c in cc)

none : (e : Edge) → Contains [] e → ⊥
none e c = absurd (let below : c.0 < 0 = c.1 in omega arith)

-- to the popf of the third function control comes from its clac alone
from_clac : (q : ℕ) (e : Edge) → Contains (edges_of accessed q) e → e.to ≡ 8 → (q ≡ 7) × (e ≡ edge 8 Next)
from_clac zero e c to = absurd (other 1 8 e c to (λ h. omega arith))
from_clac (suc zero) e c to = absurd (other 2 8 e c to (λ h. omega arith))
from_clac (suc (suc zero)) e c to = absurd (other 3 8 e c to (λ h. omega arith))
from_clac (suc (suc (suc zero))) e c to = absurd (other 4 8 e c to (λ h. omega arith))
from_clac (suc (suc (suc (suc zero)))) e c to = absurd (none e c)
from_clac (suc (suc (suc (suc (suc zero))))) e c to = absurd (other 6 8 e c to (λ h. omega arith))
from_clac (suc (suc (suc (suc (suc (suc zero)))))) e c to = absurd (none e c)
from_clac (suc (suc (suc (suc (suc (suc (suc zero))))))) e c to = (refl, only 8 e c)
from_clac (suc (suc (suc (suc (suc (suc (suc (suc zero)))))))) e c to = absurd (other 9 8 e c to (λ h. omega arith))
from_clac (suc (suc (suc (suc (suc (suc (suc (suc (suc zero))))))))) e c to = absurd (other 10 8 e c to (λ h. omega arith))
from_clac (suc (suc (suc (suc (suc (suc (suc (suc (suc (suc zero)))))))))) e c to = absurd (none e c)
from_clac (suc (suc (suc (suc (suc (suc (suc (suc (suc (suc (suc zero))))))))))) e c to = absurd (none e c)
from_clac (suc (suc (suc (suc (suc (suc (suc (suc (suc (suc (suc (suc zero)))))))))))) e c to = absurd (other 13 8 e c to (λ h. omega arith))
from_clac (suc (suc (suc (suc (suc (suc (suc (suc (suc (suc (suc (suc (suc zero))))))))))))) e c to = absurd (none e c)
from_clac (suc (suc (suc (suc (suc (suc (suc (suc (suc (suc (suc (suc (suc (suc q)))))))))))))) e c to = absurd (none e c)

-- no function begins there
not_at : (n q : ℕ) → Contains (n ∷ []) q → q ≡ 8 → n ≢ 8 → ⊥
not_at n q (zero, below, is) there apart = apart (is ∙ there)
not_at n q (suc k, below, is) there apart = absurd (omega (arith, below))

no_entry : (entry q : ℕ) → Contains accessed.entries entry → Contains (entry_points accessed entry) q → q ≡ 8 → ⊥
no_entry entry q (zero, below, is) c there = not_at 0 q (subst (λ (x : ℕ). Contains (entry_points accessed x) q) (sym is) c) there (λ h. omega arith)
no_entry entry q (suc zero, below, is) c there = not_at 5 q (subst (λ (x : ℕ). Contains (entry_points accessed x) q) (sym is) c) there (λ h. omega arith)
no_entry entry q (suc (suc zero), below, is) c there = not_at 7 q (subst (λ (x : ℕ). Contains (entry_points accessed x) q) (sym is) c) there (λ h. omega arith)
no_entry entry q (suc (suc (suc k)), below, is) c there = absurd (omega (arith, below))

is_off : (q : ℕ) (access home : Bool) → Reached accessed one_safe q access home → q ≡ 8 → access ≡ false
is_off _ _ _ (entered q entry listed arrives smap) there = absurd (no_entry entry q listed arrives there)
is_off _ _ _ (hinted q point own owner) there = refl
is_off _ _ _ (called q point hint owner smap) there = refl
is_off _ _ _ (along q access home e reached leads kind smap) there =
    let from : (q ≡ 7) × (e ≡ edge 8 Next) = from_clac q e leads there in
    subst (λ (x : ℕ). access_along e.kind (accessed.insn x).op access ≡ false) (sym from.0)
    (subst (λ (x : Edge). access_along x.kind (accessed.insn 7).op access ≡ false) (sym from.1) refl)

pub popf_off : (place : Place) (rule : ℕ) (a b : ℤ) → place ≡ at 8 → rule ≡ POPF_WITH_ACCESS_TRACKED → AccessWarns accessed one_safe place rule a b → ⊥
popf_off _ _ _ _ there asked (rules.popf q home reached op) = let e : true ≡ false = is_off q true home reached (same_point q 8 there) in let k : ⊥ = cc in k
popf_off _ _ _ _ there asked (rules.on_twice _ _ _ _) = absurd (let e : 44 ≡ 47 = asked in omega arith)
popf_off _ _ _ _ there asked (rules.call_with_access _ _ _ _ _) = absurd (let e : 41 ≡ 47 = asked in omega arith)
popf_off _ _ _ _ there asked (rules.return_with_access _ _ _) = absurd (let e : 42 ≡ 47 = asked in omega arith)
popf_off _ _ _ _ there asked (rules.return_without_access _ _ _) = absurd (let e : 43 ≡ 47 = asked in omega arith)
popf_off _ _ _ _ there asked (rules.off_twice _ _ _ _ _) = absurd (let e : 45 ≡ 47 = asked in omega arith)
popf_off _ _ _ _ there asked (rules.safe_turns_off _ _ _ _) = absurd (let e : 46 ≡ 47 = asked in omega arith)

pub off_in_no_function : (place : Place) (rule : ℕ) (a b : ℤ) → place ≡ at 11 → rule ≡ ACCESS_OFF_TWICE → AccessWarns accessed one_safe place rule a b → ⊥
off_in_no_function _ _ _ _ there asked (rules.off_twice q owner reached owned op) =
    let same : q ≡ 11 = same_point q 11 there in
    let e : None ≡ Some owner = subst (λ (r : ℕ). accessed.owner r ≡ Some owner) same owned in
    let k : ⊥ = cc in k
off_in_no_function _ _ _ _ there asked (rules.on_twice _ _ _ _) = absurd (let e : 44 ≡ 45 = asked in omega arith)
off_in_no_function _ _ _ _ there asked (rules.call_with_access _ _ _ _ _) = absurd (let e : 41 ≡ 45 = asked in omega arith)
off_in_no_function _ _ _ _ there asked (rules.return_with_access _ _ _) = absurd (let e : 42 ≡ 45 = asked in omega arith)
off_in_no_function _ _ _ _ there asked (rules.return_without_access _ _ _) = absurd (let e : 43 ≡ 45 = asked in omega arith)
off_in_no_function _ _ _ _ there asked (rules.safe_turns_off _ _ _ _) = absurd (let e : 46 ≡ 45 = asked in omega arith)
off_in_no_function _ _ _ _ there asked (rules.popf _ _ _ _) = absurd (let e : 47 ≡ 45 = asked in omega arith)
