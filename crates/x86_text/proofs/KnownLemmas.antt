-- What is known of the bytes that were read before, and of those that are decoded.
use Rattle.std.specs.Prelude.{◌↔◌, slice_get}
use Rattle.std.proofs.Common.{◌≡◌, ℕ, true, zero, suc, ◌+◌, ◌*◌, ◌-◌, ◌/◌, ◌%◌, ◌^◌, ◌<◌, ◌≤◌, List, [], ◌∷◌, ◌++◌, take, drop, length, get_or, Result, Ok, Err, Some, All, refl, sym, ap, ◌∙◌, subst, arith}
use Rattle.std.specs.Int.{w64, to_le_bytes}
use Rattle.std.proofs.Math.Pow.{mod-mod-pow}
use Rattle.std.proofs.Math.Seq.{take-add}
use Rattle.std.proofs.lemmas.Nat.{field_of, shl-shr, shr-shr}
use Rattle.std.proofs.lemmas.List.{get_or-drop, length-take, take-append-drop, take-take, take_at}
use Rattle.operation_defs.specs.declared.insn.Insn.{Insn}
use Rattle.x86_map.specs.declared.map.Map.{Map}
use Rattle.x86_map.specs.declared.map.Map.TheVariants.{Base, Whole}
use Rattle.x86_decode.specs.declared.DecodeFault.{DecodeFault}
use Rattle.x86_decode.specs.declared.DecodeFault.TheVariants.{Cut, Outside, Long}
use Rattle.x86_decode.specs.Emulation.{IsEmulated}
use Rattle.x86_decode.specs.Decoding.{Outcome, StandsInFront, EndsOutside, IsCut, IsTooLong, decoded, ud2}
use Rattle.x86_decode.proofs.Decided.{bytes_from_each, decides, lengths, outcome}
use Rattle.x86_decode.proofs.Emulating.{stands_there}
use Rattle.x86_decode.proofs.Languages.{IsBytes}
use Rattle.x86_text.specs.declared.known.Known.{Known}
use Rattle.x86_text.specs.declared.known.LongSpelling.{LongSpelling}
use Rattle.x86_text.specs.declared.known.Spelling.{Spelling}
use Rattle.x86_text.specs.Code.{may_use_table}
use Rattle.x86_text.specs.Known.{is_told_alone, long_bytes, upper_bytes, AreSpellings, IsFoundInFront, IsKindInFront, IsLongSpelling, IsSpelling, SpellsKind, SpellsShort}

module _ (bytes : List ℕ) (off : ℕ) (each : (k : ℕ) → get_or bytes k 0 < 256) where
  still_bytes : IsBytes (drop off bytes)
  still_bytes = bytes_from_each (drop off bytes) (λ k. subst (λ b. b < 256) (sym (get_or-drop off bytes k 0)) (each (off + k)))

  -- what stands in front is decoded
  pub stands_decoded : (map : Map) (insn : Insn) → StandsInFront map (drop off bytes) insn → decoded map (drop off bytes) ≡ Ok insn
  stands_decoded map insn here = (decides map (drop off bytes) still_bytes (decoded map (drop off bytes)) (Ok insn) refl).1 here

  module _ (map : Map) (insn : Insn) (is : decoded map (drop off bytes) ≡ Ok insn) where
    same_ok : (a b : Insn) → (let r : Result Insn DecodeFault = Ok b in r ≡ Ok a) → a ≡ b
    same_ok a b e = cc

    -- what is decoded stands in front, and nothing else
    pub decoded_stands : StandsInFront map (drop off bytes) insn
    decoded_stands = subst (Outcome map (drop off bytes)) is (outcome map (drop off bytes) still_bytes)

    pub decoded_only : (other : Insn) → StandsInFront map (drop off bytes) other → other ≡ insn
    decoded_only other also = same_ok other insn ((decides map (drop off bytes) still_bytes (Ok insn) (Ok other) (sym is)).1 also)

    pub decoded_lengths : (0 < insn.len) × (insn.len ≤ 15) × (insn.len ≤ length (drop off bytes))
    decoded_lengths = lengths map (drop off bytes) (Ok insn) decoded_stands

abbrev failed : DecodeFault → Result Insn DecodeFault
failed why = Err why

-- what a refusal says, from what decoding ensures of each
pub refusal : (map : Map) (bytes : List ℕ) (why : DecodeFault) → ((seen : ℕ) → (failed why ≡ failed (Outside seen)) ↔ EndsOutside map bytes seen) → ((have : ℕ) → (failed why ≡ failed (Cut have)) ↔ IsCut map bytes have) → ((failed why ≡ failed Long) ↔ IsTooLong map bytes) → Outcome map bytes (Err why)
refusal map bytes (Cut have) outside cut long = (cut have).0 refl
refusal map bytes (Outside seen) outside cut long = (outside seen).0 refl
refusal map bytes Long outside cut long = long.0 refl

-- ---- numbers that are filled from above

-- a byte of a number that is moved up
byte_above : (x s i : ℕ) → s + i + 8 ≤ 64 → x * 2 ^ s % 2 ^ 64 / 2 ^ (s + i) % 2 ^ 8 ≡ x / 2 ^ i % 2 ^ 8
byte_above x s i fits =
    let j : ℕ = 64 - (s + i) in
    let whole : 64 ≡ j + (s + i) = omega arith in
    let part : j ≡ j - 8 + 8 = omega arith in
    ap (λ n. x * 2 ^ s % 2 ^ n / 2 ^ (s + i) % 2 ^ 8) whole
    ∙ ap (λ n. n % 2 ^ 8) (field_of (x * 2 ^ s) j (s + i))
    ∙ ap (λ n. x * 2 ^ s / 2 ^ (s + i) % 2 ^ n % 2 ^ 8) part
    ∙ mod-mod-pow (x * 2 ^ s / 2 ^ (s + i)) (j - 8) 8
    ∙ ap (λ n. n % 2 ^ 8) (sym (shr-shr (x * 2 ^ s) s i) ∙ ap (λ n. n / 2 ^ i) (shl-shr x s))

-- its lowest byte
byte_first : (x s : ℕ) → s + 8 ≤ 64 → x * 2 ^ s % 2 ^ 64 / 2 ^ s % 2 ^ 8 ≡ x % 2 ^ 8
byte_first x s fits =
    let still : s ≡ s + 0 = omega arith in
    let whole : x / 1 ≡ x = omega arith in
    ap (λ n. x * 2 ^ s % 2 ^ 64 / 2 ^ n % 2 ^ 8) still ∙ byte_above x s 0 (omega arith) ∙ ap (λ n. n % 2 ^ 8) whole

-- that of a number that isn't moved
byte_kept : (x : ℕ) → x * 1 % 2 ^ 64 % 2 ^ 8 ≡ x % 2 ^ 8
byte_kept x = let same : x * 1 ≡ x = omega arith in mod-mod-pow (x * 1) 56 8 ∙ ap (λ n. n % 2 ^ 8) same

-- the lowest bytes are moved up to the end
pub moved_up : (x len : ℕ) → 0 < len → len ≤ 8 → upper_bytes (x * 2 ^ (64 - 8 * len) % 2 ^ 64) len ≡ take len (to_le_bytes w64 x)
moved_up x zero some few = absurd (omega arith)
moved_up x (suc zero) some few = λ i. byte_first x 56 (omega arith) i ∷ []
moved_up x (suc (suc zero)) some few = λ i. byte_first x 48 (omega arith) i ∷ byte_above x 48 8 (omega arith) i ∷ []
moved_up x (suc (suc (suc zero))) some few = λ i. byte_first x 40 (omega arith) i ∷ byte_above x 40 8 (omega arith) i ∷ byte_above x 40 16 (omega arith) i ∷ []
moved_up x (suc (suc (suc (suc zero)))) some few = λ i. byte_first x 32 (omega arith) i ∷ byte_above x 32 8 (omega arith) i ∷ byte_above x 32 16 (omega arith) i ∷ byte_above x 32 24 (omega arith) i ∷ []
moved_up x (suc (suc (suc (suc (suc zero))))) some few = λ i. byte_first x 24 (omega arith) i ∷ byte_above x 24 8 (omega arith) i ∷ byte_above x 24 16 (omega arith) i ∷ byte_above x 24 24 (omega arith) i ∷ byte_above x 24 32 (omega arith) i ∷ []
moved_up x (suc (suc (suc (suc (suc (suc zero)))))) some few = λ i. byte_first x 16 (omega arith) i ∷ byte_above x 16 8 (omega arith) i ∷ byte_above x 16 16 (omega arith) i ∷ byte_above x 16 24 (omega arith) i ∷ byte_above x 16 32 (omega arith) i ∷ byte_above x 16 40 (omega arith) i ∷ []
moved_up x (suc (suc (suc (suc (suc (suc (suc zero))))))) some few = λ i. byte_first x 8 (omega arith) i ∷ byte_above x 8 8 (omega arith) i ∷ byte_above x 8 16 (omega arith) i ∷ byte_above x 8 24 (omega arith) i ∷ byte_above x 8 32 (omega arith) i ∷ byte_above x 8 40 (omega arith) i ∷ byte_above x 8 48 (omega arith) i ∷ []
moved_up x (suc (suc (suc (suc (suc (suc (suc (suc zero)))))))) some few = λ i. byte_kept x i ∷ byte_above x 0 8 (omega arith) i ∷ byte_above x 0 16 (omega arith) i ∷ byte_above x 0 24 (omega arith) i ∷ byte_above x 0 32 (omega arith) i ∷ byte_above x 0 40 (omega arith) i ∷ byte_above x 0 48 (omega arith) i ∷ byte_above x 0 56 (omega arith) i ∷ []
moved_up x (suc (suc (suc (suc (suc (suc (suc (suc (suc len))))))))) some few = absurd (omega arith)

-- ---- spellings

-- those whose bytes are in front spell what stands there
in_front : (map : Map) (kinds : List Insn) (bytes spelled : List ℕ) (len number : ℕ) → spelled ≡ take len bytes → SpellsKind map kinds spelled len number → IsKindInFront map kinds bytes number
in_front map kinds bytes spelled len number same is = record {
  insn = is.insn;
  at = is.at;
  stands = subst (λ whole. StandsInFront map whole is.insn) (ap (λ front. front ++ drop len bytes) same ∙ take-append-drop len bytes) (is.stands (drop len bytes));
}

-- one that is told by its bytes is no ud2 that begins an emulated instruction
told_alone : (map : Map) (bytes : List ℕ) (insn : Insn) → is_told_alone map insn.op ≡ true → (other : Insn) → insn ≡ ud2 → IsEmulated map bytes other → ⊥
told_alone Base bytes insn alone other is e = let no = e.whole in cc
told_alone Whole bytes insn alone other is e = let no : is_told_alone Whole ud2.op ≡ true = subst (λ (i : Insn). is_told_alone Whole i.op ≡ true) is alone in cc

-- what stands in front stands wherever its bytes do
spelled_now : (map : Map) (kinds : List Insn) (bytes spelled : List ℕ) (len number : ℕ) (insn : Insn) → is_told_alone map insn.op ≡ true → spelled ≡ take len bytes → slice_get kinds number ≡ Some insn → insn.len ≡ len → StandsInFront map bytes insn → SpellsKind map kinds spelled len number
spelled_now map kinds bytes spelled len number insn alone same at long stands =
    let fits = lengths map bytes (Ok insn) stands in
    let as_long : length spelled ≡ insn.len = ap (length {A = ℕ}) same ∙ omega (arith, length-take len bytes, long, fits.2) in
    record {
      insn = insn;
      at = at;
      long = long;
      stands = λ behind. stands_there map bytes (spelled ++ behind) insn (told_alone map (spelled ++ behind) insn alone) stands
          (take_at spelled behind insn.len as_long ∙ same ∙ ap (λ n. take n bytes) (sym long));
    }

module _ (map : Map) (kinds : List Insn) (bytes : List ℕ) (first front len : ℕ) (is : to_le_bytes w64 first ≡ take 8 bytes) (few : len ≤ 8) (above : upper_bytes front len ≡ take len (to_le_bytes w64 first)) where
  same_bytes : upper_bytes front len ≡ take len bytes
  same_bytes = above ∙ ap (take len) is ∙ take-take len 8 bytes few

  -- a known one stands in front
  pub stands_known : (s : Spelling) → s.front ≡ front → s.len ≡ len → 0 < len → IsSpelling map kinds s → IsFoundInFront map kinds bytes (record { number = s.number; len = len; may_jump = s.may_jump })
  unfolding in_front
  stands_known s same_front same_len some known =
      let same : upper_bytes s.front s.len ≡ take s.len bytes = ap (λ f. upper_bytes f s.len) same_front ∙ ap (upper_bytes front) same_len ∙ same_bytes ∙ ap (λ n. take n bytes) (sym same_len) in
      let short : SpellsShort map kinds (upper_bytes s.front s.len) s.len s.number s.may_jump = known (omega arith) in
      record {
        kind = in_front map kinds bytes (upper_bytes s.front s.len) s.len s.number same short.spelled;
        long = short.spelled.long ∙ same_len;
        jumps = short.jumps;
      }

  -- what stands in front is known from now on
  pub known_now : (insn : Insn) (number : ℕ) → is_told_alone map insn.op ≡ true → slice_get kinds number ≡ Some insn → insn.len ≡ len → StandsInFront map bytes insn → IsSpelling map kinds (record { front = front; number = number; len = len; may_jump = may_use_table insn.op })
  unfolding spelled_now
  known_now insn number alone at same_len stands some = record { spelled = spelled_now map kinds bytes (upper_bytes front len) len number insn alone same_bytes at same_len stands; jumps = refl }

-- one that is looked up is among those that are known
pub looked_up : (map : Map) (kinds : List Insn) (spellings now : List Spelling) (place : ℕ) (s : Spelling) → now ≡ spellings → All (IsSpelling map kinds) spellings → place < length now → s ≡ get_or now place s → IsSpelling map kinds s
looked_up map kinds spellings now place s same all inside is = subst (IsSpelling map kinds) (sym is) (subst (All (IsSpelling map kinds)) (sym same) all place s inside)

-- ---- longer spellings

module _ (map : Map) (kinds : List Insn) (bytes : List ℕ) (front back len : ℕ) (many : 8 < len) (few : len ≤ 15) (first : to_le_bytes w64 front ≡ take 8 bytes) (last : to_le_bytes w64 back ≡ take 8 (drop (len - 8) bytes)) where
  same_long : long_bytes front back len ≡ take len bytes
  same_long =
      let sum : len - 8 + 8 ≡ len = omega arith in
      ap (λ xs. take (len - 8) xs ++ to_le_bytes w64 back) first
      ∙ ap (λ xs. xs ++ to_le_bytes w64 back) (take-take (len - 8) 8 bytes (omega arith))
      ∙ ap (λ xs. take (len - 8) bytes ++ xs) last
      ∙ sym (take-add (len - 8) 8 bytes)
      ∙ ap (λ n. take n bytes) sum

  -- a known one stands in front
  pub stands_long : (s : LongSpelling) → s.front ≡ front → s.back ≡ back → s.len ≡ len → IsLongSpelling map kinds s → IsKindInFront map kinds bytes s.number
  stands_long s same_front same_back same_len known =
      let same : long_bytes s.front s.back s.len ≡ take s.len bytes = ap (λ f. long_bytes f s.back s.len) same_front ∙ ap (λ b. long_bytes front b s.len) same_back ∙ ap (long_bytes front back) same_len ∙ same_long ∙ ap (λ n. take n bytes) (sym same_len) in
      in_front map kinds bytes (long_bytes s.front s.back s.len) s.len s.number same (known (omega arith))

  -- what stands in front is known from now on
  pub long_known_now : (insn : Insn) (number : ℕ) → is_told_alone map insn.op ≡ true → slice_get kinds number ≡ Some insn → insn.len ≡ len → StandsInFront map bytes insn → IsLongSpelling map kinds (record { front = front; back = back; number = number; len = len })
  long_known_now insn number alone at same_len stands some = spelled_now map kinds bytes (long_bytes front back len) len number insn alone same_long at same_len stands

-- one that is looked up is among those that are known
pub long_looked_up : (map : Map) (kinds : List Insn) (spellings now : List LongSpelling) (place : ℕ) (s : LongSpelling) → now ≡ spellings → All (IsLongSpelling map kinds) spellings → place < length now → s ≡ get_or now place s → IsLongSpelling map kinds s
long_looked_up map kinds spellings now place s same all inside is = subst (IsLongSpelling map kinds) (sym is) (subst (All (IsLongSpelling map kinds)) (sym same) all place s inside)

-- ---- as more instructions come

module _ (kinds more : List Insn) (kept : (k : ℕ) (kind : Insn) → slice_get kinds k ≡ Some kind → slice_get more k ≡ Some kind) where
  still_spells : (map : Map) (bytes : List ℕ) (len number : ℕ) → SpellsKind map kinds bytes len number → SpellsKind map more bytes len number
  still_spells map bytes len number is = record { insn = is.insn; at = kept number is.insn is.at; long = is.long; stands = is.stands }

  -- what is known stays true
  pub still_spellings : (known : Known) → AreSpellings kinds known → AreSpellings more known
  unfolding still_spells
  still_spellings known are = record {
    short = λ k d within some. record { spelled = still_spells known.map _ _ _ (are.short k d within some).spelled; jumps = (are.short k d within some).jumps };
    long = λ k d within some. still_spells known.map _ _ _ (are.long k d within some);
  }
