-- Whether two states are equal can be told, and so can it of two owners.
use Rattle.std.proofs.Common.{◌≡◌, ◌≢◌, ℕ, Bool, true, false, Option, Some, None, ℤ, ap, refl}
use Rattle.std.proofs.Math.IntN.{ℤ_discrete}
use Rattle.std.proofs.Math.Decide.{ℕ_discrete}
use Rattle.state_defs.specs.declared.state.Depth.{Depth}
use Rattle.state_defs.specs.declared.state.Depth.TheVariants.{Known, AtLeast}
use Rattle.state_defs.specs.declared.state.BpHome.{BpHome}
use Rattle.state_defs.specs.declared.state.BpHome.TheVariants.{Same, Saved}
use Rattle.state_defs.specs.declared.state.EndKind.{EndKind}
use Rattle.state_defs.specs.declared.state.EndKind.TheVariants.{Undefined, EndOfStack}
use Rattle.state_defs.specs.declared.state.State.{State}
use Rattle.state_defs.specs.declared.state.State.TheVariants.{Live, Ended, Regs}

same_depth : (x y : Depth) → Dec (x ≡ y)
same_depth (Known n) (Known m) = elim (ℤ_discrete n m) [ yes e ↦ yes (ap Known e) | no f ↦ no (λ e. f (cc)) ]
same_depth (Known n) (AtLeast m) = no (λ e. cc)
same_depth (AtLeast n) (Known m) = no (λ e. cc)
same_depth (AtLeast n) (AtLeast m) = elim (ℤ_discrete n m) [ yes e ↦ yes (ap AtLeast e) | no f ↦ no (λ e. f (cc)) ]

same_fp : (x y : Option ℤ) → Dec (x ≡ y)
same_fp None None = yes refl
same_fp None (Some m) = no (λ e. cc)
same_fp (Some n) None = no (λ e. cc)
same_fp (Some n) (Some m) = elim (ℤ_discrete n m) [ yes e ↦ yes (ap Some e) | no f ↦ no (λ e. f (cc)) ]

same_home : (x y : BpHome) → Dec (x ≡ y)
same_home Same Same = yes refl
same_home Same (Saved m) = no (λ e. cc)
same_home (Saved n) Same = no (λ e. cc)
same_home (Saved n) (Saved m) = elim (ℤ_discrete n m) [ yes e ↦ yes (ap Saved e) | no f ↦ no (λ e. f (cc)) ]

same_kind : (x y : EndKind) → Dec (x ≡ y)
same_kind Undefined Undefined = yes refl
same_kind Undefined EndOfStack = no (λ e. cc)
same_kind EndOfStack Undefined = no (λ e. cc)
same_kind EndOfStack EndOfStack = yes refl

pub same_bool : (x y : Bool) → Dec (x ≡ y)
same_bool true true = yes refl
same_bool true false = no (λ e. cc)
same_bool false true = no (λ e. cc)
same_bool false false = yes refl

same_live : (d e : Depth) (m n : Option ℤ) (b c : BpHome) → Dec (d ≡ e) → Dec (m ≡ n) → Dec (b ≡ c) → Dec (Live d m b ≡ Live e n c)
same_live d e m n b c (yes x) (yes y) (yes z) = yes (cc)
same_live d e m n b c (no f) y z = no (λ k. f (cc))
same_live d e m n b c (yes x) (no f) z = no (λ k. f (cc))
same_live d e m n b c (yes x) (yes y) (no f) = no (λ k. f (cc))

same_regs : (f g : Bool) (d e : ℤ) → Dec (f ≡ g) → Dec (d ≡ e) → Dec (Regs f d ≡ Regs g e)
same_regs f g d e (yes x) (yes y) = yes (cc)
same_regs f g d e (no h) y = no (λ k. h (cc))
same_regs f g d e (yes x) (no h) = no (λ k. h (cc))

pub same_state : (x y : State) → Dec (x ≡ y)
same_state (Live d m b) (Live e n c) = same_live d e m n b c (same_depth d e) (same_fp m n) (same_home b c)
same_state (Live d m b) (Ended k) = no (λ e. cc)
same_state (Live d m b) (Regs f n) = no (λ e. cc)
same_state (Ended k) (Live d m b) = no (λ e. cc)
same_state (Ended k) (Ended l) = elim (same_kind k l) [ yes e ↦ yes (ap Ended e) | no f ↦ no (λ e. f (cc)) ]
same_state (Ended k) (Regs f n) = no (λ e. cc)
same_state (Regs f n) (Live d m b) = no (λ e. cc)
same_state (Regs f n) (Ended k) = no (λ e. cc)
same_state (Regs f n) (Regs g m) = same_regs f g n m (same_bool f g) (ℤ_discrete n m)

same_owner : (x y : Option ℕ) → Dec (x ≡ y)
same_owner None None = yes refl
same_owner None (Some m) = no (λ e. cc)
same_owner (Some n) None = no (λ e. cc)
same_owner (Some n) (Some m) = elim (ℕ_discrete n m) [ yes e ↦ yes (ap Some e) | no f ↦ no (λ e. f (cc)) ]

-- states that can't differ are one, and so are owners
pub state_stable : (x y : State) → (x ≢ y → ⊥) → x ≡ y
state_stable x y h = elim (same_state x y) [ yes e ↦ e | no f ↦ absurd (h f) ]

pub owner_stable : (x y : Option ℕ) → (x ≢ y → ⊥) → x ≡ y
owner_stable x y h = elim (same_owner x y) [ yes e ↦ e | no f ↦ absurd (h f) ]
