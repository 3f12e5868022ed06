-- What is read of a body depends on its bytes alone.
use Rattle.std.proofs.Common.{◌≡◌, ℕ, suc, ◌+◌, ◌-◌, ◌*◌, ◌/◌, ◌%◌, ◌^◌, ◌<◌, List, [], ◌∷◌, ◌++◌, length, take, drop, get_or, refl, sym, ap, ◌∙◌, arith, Bool, true, false, Some, None}
use Rattle.std.specs.Int.{w64, cast_signed, cast_unsigned}
use Rattle.std.specs.List.{flat_map}
use Rattle.std.proofs.Math.Facts.{Fits-of_z}
use Rattle.std.proofs.lemmas.Int.{to_z-of_z}
use Rattle.std.proofs.lemmas.List.{append_assoc, append-nil}
use Rattle.std.proofs.lemmas.List.Concat.{flat_map-append}
use Rattle.elf_objects.specs.Below.{least_below}
use Rattle.elf_objects.specs.File.{section_header}
use Rattle.elf_objects.specs.Table.{header_of, reloc_at}
use Rattle.elf_objects.specs.declared.symbol.Reloc.{Reloc}
use Rattle.elf_objects.proofs.LeastBelow.{least_below-stays, least_below-suc, none-least_below}
use Rattle.elf_write.specs.Layout.{encoded}
use Rattle.elf_write.proofs.Facts.{split_at}
use Rattle.elf_write.proofs.Numbers.{xword-encoded}
use Rattle.elf_write.proofs.Parts.{part, part-left, part-right, part-whole}
use Rattle.demo_objects.specs.CanMake.{IsNewReloc}
use Rattle.demo_objects.specs.Made.{reloc_bytes}
use Rattle.demo_objects.specs.declared.spec.RelSpec.{RelSpec}
use Rattle.demo_objects.proofs.FileHeader.{next}

-- one of some pieces stands behind those before it
pub part-piece : {X : Type 0} (f : X → List ℕ) (xs : List X) (i : ℕ) (d : X) → i < length xs
    → part (length (flat_map f (take i xs))) (length (f (get_or xs i d))) (flat_map f xs) ≡ f (get_or xs i d)
part-piece {X} f xs i d h =
    let x : X = get_or xs i d in
    let before : List ℕ = flat_map f (take i xs) in
    let after : List ℕ = flat_map f (drop (i + 1) xs) in
    let whole : flat_map f xs ≡ before ++ (f x ++ after) = ap (flat_map f) (split_at xs i d h) ∙ flat_map-append f (take i xs) (x ∷ drop (i + 1) xs) in
    ap (part (length before) (length (f x))) whole
    ∙ part-right (length before) 0 (length (f x)) before (f x ++ after) (omega arith)
    ∙ part-left 0 (length (f x)) (f x) after (omega arith)
    ∙ part-whole (length (f x)) (f x) refl

-- the least number is the one that passes where none before does
pub least-is : (p : ℕ → Bool) (n k : ℕ) → k < n → p k ≡ true → ((j : ℕ) → j < k → p j ≡ false) → least_below p n ≡ Some k
least-is p n k h passes none =
    let before : least_below p k ≡ None = none-least_below p k none in
    let here : least_below p (suc k) ≡ Some k = rw (least_below-suc p k, before, passes) refl in
    let e : n - suc k + suc k ≡ n = omega arith in
    ap (least_below p) (sym e) ∙ least_below-stays p (suc k) k (n - suc k) here

low : (s k : ℕ) → k < 2 ^ 32 → (s * 2 ^ 32 + k) % 2 ^ 32 ≡ k
low s k h = omega arith

high : (s k : ℕ) → k < 2 ^ 32 → (s * 2 ^ 32 + k) / 2 ^ 32 ≡ s
high s k h = omega arith

-- a relocation is read back from its bytes
pub reloc-back : (count : ℕ) (r : RelSpec) → IsNewReloc count r → reloc_at (reloc_bytes r.reloc) 0 ≡ r.reloc
unfolding reloc_at
reloc-back count r ok =
    let one : Reloc = r.reloc in
    let info : ℕ = one.sym * 2 ^ 32 + one.kind in
    let addend : ℕ = cast_unsigned w64 one.addend in
    let b : List ℕ = reloc_bytes one in
    let r2 : List ℕ = encoded 8 addend ++ [] in
    let r1 : List ℕ = encoded 8 info ++ r2 in
    let d0 : drop 0 b ≡ encoded 8 one.offset ++ r1 = simp (append_assoc, append-nil) refl in
    let d8 : drop 8 b ≡ r1 = next 0 8 one.offset b r1 d0 in
    let d16 : drop 16 b ≡ r2 = next 8 8 info b r2 d8 in
    let kind = ok.kind in
    let sym_fits = ok.sym in
    let f0 = xword-encoded b r1 0 one.offset d0 ok.offset in
    let f1 = xword-encoded b r2 8 info d8 (omega arith) in
    let f2 = xword-encoded b [] 16 addend d16 (Fits-of_z ok.addend).fits in
    let a : cast_signed w64 addend ≡ one.addend = to_z-of_z w64 one.addend ok.addend in
    rw (f0, f1, f2, a, low one.sym one.kind kind, high one.sym one.kind kind) refl

-- the header of a section that is there
pub header-some : (b : List ℕ) (i : ℕ) → header_of b (Some i) ≡ section_header b i
unfolding header_of
header-some b i = refl
