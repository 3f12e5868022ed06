-- `==` of instructions tells equal ones.
use Rattle.std.proofs.Common.{◌≡◌, ℕ, ℤ, Bool, true, false, ◌&&◌, List, [], ◌∷◌, Option, rules, refl, sym, ap, ◌∙◌, inl, inr}
use Rattle.std.specs.Bool.{Decides}
use Rattle.std.specs.Cmp.Rules.{hashing}
use Rattle.std.proofs.lemmas.Bool.{false≢true}
use Rattle.std.specs.contracts.prelude.BoolPartialEq.TheImpl as bool_impl
use Rattle.std.specs.contracts.prelude.I32PartialEq.TheImpl as i32_impl
use Rattle.std.specs.contracts.prelude.I64PartialEq.TheImpl as i64_impl
use Rattle.std.specs.contracts.prelude.OptionPartialEq.TheImpl as option_impl
use Rattle.std.specs.contracts.prelude.U8PartialEq.TheImpl as u8_impl
use denote.Builtin.{u8}
use denote.Enum.Compared.{Each, by}
use denote.Enum.Declared.{Choice}
use denote.Struct.Field.{Field}
use denote.Struct.Values.{Values}
use Rattle.operation_defs.specs.contracts.insn.InsnPartialEq.TheImpl as insn_impl
use Rattle.operation_defs.specs.contracts.op.OpPartialEq.TheImpl as op_impl
use Rattle.operation_defs.specs.contracts.op.Op.{the_parts, as_values, the_make, the_eta}
use Rattle.operation_defs.specs.declared.insn.Insn.{Insn}
use Rattle.operation_defs.specs.declared.op.Op.{Op}

-- ---- choices of variants

-- for each variant the comparison of its fields tells equal ones
abbrev AreTold : (Fss : List (List Field)) → Each Bool Fss → Type 0
AreTold [] each = Unit {0}
AreTold (Fs ∷ Fss) each = ((x y : Values Fs) → each.0 x y ≡ true → x ≡ y) × AreTold Fss each.1

same_choice : (Fss : List (List Field)) (each : Each Bool Fss) → AreTold Fss each → (c d : Choice Fss) → by false false Fss each c d ≡ true → c ≡ d
same_choice [] each told c d e = absurd c
same_choice (Fs ∷ Fss) each told (inl x) (inl y) e = ap inl (told.0 x y e)
same_choice (Fs ∷ Fss) each told (inl x) (inr d) e = absurd (false≢true e)
same_choice (Fs ∷ Fss) each told (inr c) (inl y) e = absurd (false≢true e)
same_choice (Fs ∷ Fss) each told (inr c) (inr d) e = ap inr (same_choice Fss each.1 told.1 c d e)

-- ---- the fields of an operation

both : (p q : Bool) → p && q ≡ true → (p ≡ true) × (q ≡ true)
both true q e = (refl, e)
both false q e = absurd (false≢true e)

i32_Decides : (x y : ℤ) → Decides ((i32_impl.ghosts).eq x y) (x ≡ y)
i32_Decides = search (hashing, rules)

i64_Decides : (x y : ℤ) → Decides ((i64_impl.ghosts).eq x y) (x ≡ y)
i64_Decides = search (hashing, rules)

u8_Decides : (x y : ℕ) → Decides ((u8_impl.ghosts).eq x y) (x ≡ y)
u8_Decides = search (hashing, rules)

bool_Decides : (x y : Bool) → Decides ((bool_impl.ghosts).eq x y) (x ≡ y)
bool_Decides = search (hashing, rules)

option_Decides : (x y : Option ℕ) → Decides ((option_impl.ghosts u8 u8_impl.ghosts u8_impl.dict).eq x y) (x ≡ y)
option_Decides = search (hashing, rules)

abbrev no_numbers : Unit {0} → Unit {0} → Bool
no_numbers x y = true

abbrev number : ℤ × Unit {0} → ℤ × Unit {0} → Bool
number x y = (i32_impl.ghosts).eq x.0 y.0

same_number : (x y : ℤ × Unit {0}) → number x y ≡ true → x ≡ y
same_number x y e = let one : ℤ → ℤ × Unit {0} = λ n. (n, tt) in ap one ((i32_Decides x.0 y.0).0 e)

abbrev long_number : ℤ × Unit {0} → ℤ × Unit {0} → Bool
long_number x y = (i64_impl.ghosts).eq x.0 y.0

same_long_number : (x y : ℤ × Unit {0}) → long_number x y ≡ true → x ≡ y
same_long_number x y e = let one : ℤ → ℤ × Unit {0} = λ n. (n, tt) in ap one ((i64_Decides x.0 y.0).0 e)

abbrev jump : ℤ × (Bool × Unit {0}) → ℤ × (Bool × Unit {0}) → Bool
jump x y = (i32_impl.ghosts).eq x.0 y.0 && (bool_impl.ghosts).eq x.1.0 y.1.0

same_jump : (x y : ℤ × (Bool × Unit {0})) → jump x y ≡ true → x ≡ y
same_jump x y e =
    let parts = both ((i32_impl.ghosts).eq x.0 y.0) ((bool_impl.ghosts).eq x.1.0 y.1.0) e in
    let far : ℤ → ℤ × (Bool × Unit {0}) = λ n. (n, x.1) in
    let wide : Bool → ℤ × (Bool × Unit {0}) = λ b. (y.0, (b, tt)) in
    ap far ((i32_Decides x.0 y.0).0 parts.0) ∙ ap wide ((bool_Decides x.1.0 y.1.0).0 parts.1)

abbrev address : Option ℕ × Unit {0} → Option ℕ × Unit {0} → Bool
address x y = (option_impl.ghosts u8 u8_impl.ghosts u8_impl.dict).eq x.0 y.0

same_address : (x y : Option ℕ × Unit {0}) → address x y ≡ true → x ≡ y
same_address x y e = let one : Option ℕ → Option ℕ × Unit {0} = λ n. (n, tt) in ap one ((option_Decides x.0 y.0).0 e)

-- ---- operations and instructions

abbrev each_variant : Each Bool the_parts
each_variant = (no_numbers, (no_numbers, (no_numbers, (no_numbers, (no_numbers, (no_numbers, (no_numbers, (no_numbers, (long_number, (long_number, (long_number, (long_number, (long_number, (no_numbers, (no_numbers, (long_number, (long_number, (no_numbers, (no_numbers, (no_numbers, (number, (no_numbers, (no_numbers, (jump, (jump, (address, (no_numbers, (no_numbers, (no_numbers, (no_numbers, (no_numbers, (no_numbers, (no_numbers, (no_numbers, (no_numbers, tt)))))))))))))))))))))))))))))))))))

pub same_op : (a b : Op) → op_impl.eq-value.it a b ≡ true → a ≡ b
same_op a b e = sym (the_eta a) ∙ ap the_make (same_choice the_parts each_variant (λ x y e. refl, (λ x y e. refl, (λ x y e. refl, (λ x y e. refl, (λ x y e. refl, (λ x y e. refl, (λ x y e. refl, (λ x y e. refl, (same_long_number, (same_long_number, (same_long_number, (same_long_number, (same_long_number, (λ x y e. refl, (λ x y e. refl, (same_long_number, (same_long_number, (λ x y e. refl, (λ x y e. refl, (λ x y e. refl, (same_number, (λ x y e. refl, (λ x y e. refl, (same_jump, (same_jump, (same_address, (λ x y e. refl, (λ x y e. refl, (λ x y e. refl, (λ x y e. refl, (λ x y e. refl, (λ x y e. refl, (λ x y e. refl, (λ x y e. refl, (λ x y e. refl, tt))))))))))))))))))))))))))))))))))) (as_values a) (as_values b) e) ∙ the_eta b

pub same_insn : (one other : Insn) → insn_impl.eq-value.it one other ≡ true → one ≡ other
same_insn one other e =
    let parts = both ((u8_impl.ghosts).eq one.len other.len) (op_impl.eq-value.it one.op other.op) e in
    let long : ℕ → Insn = λ n. record { len = n; op = one.op } in
    let does : Op → Insn = λ op. record { len = other.len; op = op } in
    ap long ((u8_Decides one.len other.len).0 parts.0) ∙ ap does (same_op one.op other.op parts.1)
