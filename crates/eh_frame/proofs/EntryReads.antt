-- The numbers of an entry, as they are read and written.
use Rattle.std.proofs.Common.{◌≡◌, ℕ, suc, ◌+◌, ◌-◌, ◌*◌, ◌%◌, ◌<◌, ◌≤◌, ◌^◌, List, [], ◌∷◌, ◌++◌, length, take, drop, get_or, refl, sym, ◌∙◌, ap, subst, arith, append_assoc}
use Rattle.std.proofs.lemmas.List.{take-append-drop, drop-drop, drop_more, length-drop, length-take-le, get_or-drop}
use Rattle.byteorder.specs.Endian.{little_number, little_bytes}
use Rattle.byteorder.specs.Numbers.{little_number-reads_back}
use Rattle.eh_frame.specs.Records.{entry_bytes, IsEntry}
use Rattle.eh_frame.proofs.GroupsRead.{AreBytes}
use Rattle.eh_frame.proofs.InstructionsRead.{four_bytes}
use Rattle.eh_frame.proofs.FollowedSteps.{drop_bytes}
use Rattle.eh_frame.proofs.EntryLemmas.{entry_bytes_length}

-- four bytes are those of their number
four_back : (xs : List ℕ) → AreBytes xs → 4 ≤ length xs → little_bytes 4 (little_number 4 xs) ≡ take 4 xs
four_back [] are h = absurd (omega arith)
four_back (a ∷ []) are h = absurd (omega arith)
four_back (a ∷ b ∷ []) are h = absurd (omega arith)
four_back (a ∷ b ∷ c ∷ []) are h = absurd (omega arith)
four_back (a ∷ b ∷ c ∷ d ∷ rest) are h = four_bytes a b c d (little_number 4 (a ∷ b ∷ c ∷ d ∷ rest)) (are 0) (are 1) (are 2) (are 3) (omega arith)

four_split : (bytes : List ℕ) (i n : ℕ) → AreBytes bytes → i + 4 ≤ length bytes → little_number 4 (drop i bytes) ≡ n → drop i bytes ≡ little_bytes 4 n ++ drop (i + 4) bytes
four_split bytes i n are h e =
    let l = length-drop i bytes in
    sym (take-append-drop 4 (drop i bytes))
    ∙ ap (λ (bs : List ℕ). bs ++ drop 4 (drop i bytes)) (sym (four_back (drop i bytes) (drop_bytes i bytes are) (omega arith)) ∙ ap (little_bytes 4) e)
    ∙ ap (λ (bs : List ℕ). little_bytes 4 n ++ bs) (drop-drop 4 i bytes)

-- what the numbers at the beginning of some bytes have to be
pub record HasEntry (at n : ℕ) (bytes : List ℕ) : Type 0 where
  pub len : little_number 4 bytes ≡ n
  pub least : 13 ≤ n
  pub most : n + 4 ≤ length bytes
  pub aligned : n % 8 ≡ 4
  pub back : little_number 4 (drop 4 bytes) ≡ at + 4
  pub address : little_number 4 (drop 8 bytes) ≡ 0
  pub augmentation : get_or bytes 16 0 ≡ 0

pub entry_found : (at n : ℕ) (bytes spelled : List ℕ) → AreBytes bytes → length bytes < 2 ^ 32 → HasEntry at n bytes → spelled ≡ take (n - 13) (drop 17 bytes) → little_number 4 (drop 12 bytes) < 2 ^ 32 → IsEntry at bytes (little_number 4 (drop 12 bytes)) spelled (drop (17 + length spelled) bytes)
unfolding entry_bytes
entry_found at n bytes spelled are h has is fits =
    let least = has.least in
    let most = has.most in
    let aligned = has.aligned in
    let rest = length-drop 17 bytes in
    let long : length spelled ≡ n - 13 = ap length is ∙ length-take-le (n - 13) (drop 17 bytes) (omega arith) in
    let size : ℕ = little_number 4 (drop 12 bytes) in
    let tail : drop 17 bytes ≡ spelled ++ drop (17 + length spelled) bytes =
    sym (take-append-drop (n - 13) (drop 17 bytes))
    ∙ ap (λ (bs : List ℕ). bs ++ drop (n - 13) (drop 17 bytes)) (sym is)
    ∙ ap (λ (bs : List ℕ). spelled ++ bs) (drop-drop (n - 13) 17 bytes)
    ∙ ap (λ (k : ℕ). spelled ++ drop (17 + k) bytes) (sym long) in
    let byte : drop 16 bytes ≡ 0 ∷ drop 17 bytes = drop_more bytes 16 0 (omega arith) ∙ ap (λ (b : ℕ). b ∷ drop 17 bytes) has.augmentation in
    record {
      whole =
          four_split bytes 0 n are (omega arith) has.len
          ∙ ap (λ (k : ℕ). little_bytes 4 k ++ drop 4 bytes) (let k : n ≡ 13 + length spelled = omega arith in k)
          ∙ ap (λ (bs : List ℕ). little_bytes 4 (13 + length spelled) ++ bs) (four_split bytes 4 (at + 4) are (omega arith) has.back
          ∙ ap (λ (bs : List ℕ). little_bytes 4 (at + 4) ++ bs) (four_split bytes 8 0 are (omega arith) has.address
          ∙ ap (λ (bs : List ℕ). little_bytes 4 0 ++ bs) (four_split bytes 12 size are (omega arith) refl
          ∙ ap (λ (bs : List ℕ). little_bytes 4 size ++ bs) (byte ∙ ap (λ (bs : List ℕ). 0 ∷ bs) tail))));
      aligned = omega arith;
      short = omega arith;
      fits = fits;
    }

pub entry_reads : (at size : ℕ) (bytes spelled behind : List ℕ) → at + 4 < 2 ^ 32 → IsEntry at bytes size spelled behind → HasEntry at (13 + length spelled) bytes
unfolding entry_bytes
entry_reads at size bytes spelled behind h is =
    let short = is.short in
    let aligned = is.aligned in
    let long = entry_bytes_length at bytes size spelled behind is in
    record {
      len = ap (little_number 4) is.whole ∙ little_number-reads_back 4 (13 + length spelled) ((little_bytes 4 (at + 4) ++ (little_bytes 4 0 ++ (little_bytes 4 size ++ 0 ∷ spelled))) ++ behind) (omega arith);
      least = omega arith;
      most = omega arith;
      aligned = omega arith;
      back = ap (λ (bs : List ℕ). little_number 4 (drop 4 bs)) is.whole ∙ little_number-reads_back 4 (at + 4) ((little_bytes 4 0 ++ (little_bytes 4 size ++ 0 ∷ spelled)) ++ behind) (omega arith);
      address = ap (λ (bs : List ℕ). little_number 4 (drop 8 bs)) is.whole ∙ little_number-reads_back 4 0 ((little_bytes 4 size ++ 0 ∷ spelled) ++ behind) (omega arith);
      augmentation = ap (λ (bs : List ℕ). get_or bs 16 0) is.whole;
    }
