-- Code that no symbol covers.
use Rattle.std.proofs.Common.{◌≡◌, ℕ, zero, suc, ◌&&◌, Bool, true, false, Option, Some, None, refl, sym, ap, subst, lit<}
use Rattle.state_defs.specs.declared.state.State.{State}
use Rattle.machine_defs.specs.Kept.{NotKept, kept_or}
use Rattle.machine_defs.specs.Broken.{is_hole, IsInPartOfHole, IsUnreached, IsFirstUnreached}
use Rattle.machine_defs.specs.WorkedHoles.{holed, alone, linked, LeavesHoles}

-- none of them is kept
unkept_1 : NotKept holed 1
unkept_1 zero = refl
unkept_1 (suc level) = ap (λ (o : Option State). kept_or o None) (unkept_1 level)

unkept_2 : NotKept holed 2
unkept_2 zero = refl
unkept_2 (suc level) = ap (λ (o : Option State). kept_or o None) (unkept_2 level)

unkept_3 : NotKept holed 3
unkept_3 zero = refl
unkept_3 (suc level) = ap (λ (o : Option State). kept_or o None) (unkept_3 level)

unkept_4 : NotKept holed 4
unkept_4 zero = refl
unkept_4 (suc level) = ap (λ (o : Option State). kept_or o None) (unkept_4 level)

true_is_false : true ≡ false → ⊥
true_is_false e = let k : ⊥ = cc in k

-- where the object is checked alone there is no hole
no_part : (q : ℕ) → IsInPartOfHole holed alone q → ⊥
no_part q h = none (holed.uncovered h.hole) h.left
  where
    none : (b : Bool) → (b && false) ≡ true → ⊥
    none true e = let k : ⊥ = cc in k
    none false e = let k : ⊥ = cc in k

told_1 : IsUnreached holed alone 1
told_1 = record { point = lit< tt; plain = refl; checked = refl; reachable = λ none. refl; covered = refl; apart = no_part 1; telling = refl; not_kept = unkept_1 }

told_2 : IsUnreached holed alone 2
told_2 = record { point = lit< tt; plain = refl; checked = refl; reachable = λ none. refl; covered = refl; apart = no_part 2; telling = refl; not_kept = unkept_2 }

told_4 : IsUnreached holed alone 4
told_4 = record { point = lit< tt; plain = refl; checked = refl; reachable = λ none. refl; covered = refl; apart = no_part 4; telling = refl; not_kept = unkept_4 }

some_is_none : (n : ℕ) → Some n ≡ None → ⊥
some_is_none n e = let k : ⊥ = cc in k

of_another : (r : ℕ) → Some 0 ≡ Some r → holed.function r ≡ None → ⊥
of_another r before same = let e : 0 ≡ r = cc in some_is_none 0 (subst (λ (q : ℕ). holed.function q ≡ None) (sym e) same)

first_1 : IsFirstUnreached holed alone 1
first_1 = record { unreached = told_1; first = λ r before same h. of_another r before same }

-- where it is linked, the jump of the hole leads to the part
in_part : IsInPartOfHole holed linked 4
in_part = record { hole = 2; point = lit< tt; plain = refl; left = refl; entered = 4; leads = (0, lit< tt, refl); of_part = λ e. let k : ⊥ = cc in k; same = refl }

-- and to no other code
function_of : (h : IsInPartOfHole holed linked 3) → ⊥
function_of h = h.of_part (let e : None ≡ holed.function h.entered = h.same in none_owned h.entered (sym e))
  where
    none_owned : (q : ℕ) → holed.function q ≡ None → holed.function q ≡ holed.owner q
    none_owned zero e = refl
    none_owned (suc zero) e = refl
    none_owned (suc (suc zero)) e = refl
    none_owned (suc (suc (suc zero))) e = refl
    none_owned (suc (suc (suc (suc q)))) e = absurd (some_is_none 4 e)

untold_2 : (r : ℕ) → Some 2 ≡ Some r → IsUnreached holed linked r → ⊥
untold_2 r before h = let e : 2 ≡ r = cc in let f : is_hole holed linked 2 ≡ false = subst (λ (q : ℕ). is_hole holed linked q ≡ false) (sym e) h.covered in true_is_false f

first_3 : IsFirstUnreached holed linked 3
first_3 = record {
  unreached = record { point = lit< tt; plain = refl; checked = refl; reachable = λ none. refl; covered = refl; apart = function_of; telling = refl; not_kept = unkept_3 };
  first = λ r before same h. untold_2 r before h;
}

pub leaves_holes : LeavesHoles
leaves_holes = record {
  hole = refl;
  joined = refl;
  no_hole = refl;
  covered = refl;
  untold = λ h. true_is_false h.covered;
  untold_part = λ h. h.apart in_part;
  told = first_1;
  told_part = told_4;
  behind = first_3;
  not_first = λ h. h.first 2 refl refl told_2;
}
