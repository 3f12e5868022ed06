-- The object with the new sections is well-formed.
use Rattle.std.proofs.Common.{◌≡◌, inl, inr, ℕ, ◌+◌, ◌<◌, ◌≤◌, List, length, refl, ◌∙◌, arith}
use Rattle.std.specs.Prelude.{All, AllPairs, slice_index}
use Rattle.elf_objects.specs.Contents.{elf_of}
use Rattle.elf_objects.specs.File.{HasTable, section_count, shstrndx, wrong_field}
use Rattle.elf_objects.specs.Number.{half, word}
use Rattle.elf_objects.specs.Object.{IsWellFormed}
use Rattle.elf_write.specs.Added.{AreApart, IsAddable}
use Rattle.elf_write.specs.Layout.{NewEntry}
use Rattle.elf_write.proofs.Contents.{symbols-output}
use Rattle.elf_write.proofs.Facts.{Output}
use Rattle.elf_write.proofs.Forms.{forms-output}
use Rattle.elf_write.proofs.Links.{links-output, names-output, symbol_count-output}
use Rattle.elf_write.proofs.Numbers.{half-same, index-same, word-same}
use Rattle.elf_write.proofs.Placement.{bodies-output}
use Rattle.elf_write.proofs.Relocations.{relocs-output, text-output}

-- the fields that say what file it is
target-output : (b : List ℕ) (new : List NewEntry) (q : List ℕ) (hp np : ℕ) (nm : List ℕ) (place name : ℕ → ℕ)
    → Output b new q hp np nm place name → 64 ≤ length b → wrong_field q ≡ wrong_field b
unfolding wrong_field
target-output b new q hp np nm place name o file =
    let f0 : slice_index q 0 ≡ slice_index b 0 = index-same 0 0 q b (o.front 0 1 (omega arith) (inl (omega arith)) (inl (omega arith))) in
    let f1 : slice_index q 1 ≡ slice_index b 1 = index-same 1 1 q b (o.front 1 1 (omega arith) (inl (omega arith)) (inl (omega arith))) in
    let f2 : slice_index q 2 ≡ slice_index b 2 = index-same 2 2 q b (o.front 2 1 (omega arith) (inl (omega arith)) (inl (omega arith))) in
    let f3 : slice_index q 3 ≡ slice_index b 3 = index-same 3 3 q b (o.front 3 1 (omega arith) (inl (omega arith)) (inl (omega arith))) in
    let f4 : slice_index q 4 ≡ slice_index b 4 = index-same 4 4 q b (o.front 4 1 (omega arith) (inl (omega arith)) (inl (omega arith))) in
    let f5 : slice_index q 5 ≡ slice_index b 5 = index-same 5 5 q b (o.front 5 1 (omega arith) (inl (omega arith)) (inl (omega arith))) in
    let f6 : slice_index q 6 ≡ slice_index b 6 = index-same 6 6 q b (o.front 6 1 (omega arith) (inl (omega arith)) (inl (omega arith))) in
    let f7 : half q 16 ≡ half b 16 = half-same 16 16 q b (o.front 16 2 (omega arith) (inl (omega arith)) (inl (omega arith))) in
    let f8 : half q 18 ≡ half b 18 = half-same 18 18 q b (o.front 18 2 (omega arith) (inl (omega arith)) (inl (omega arith))) in
    let f9 : word q 20 ≡ word b 20 = word-same 20 20 q b (o.front 20 4 (omega arith) (inl (omega arith)) (inl (omega arith))) in
    let f10 : half q 52 ≡ half b 52 = half-same 52 52 q b (o.front 52 2 (omega arith) (inr (omega arith)) (inl (omega arith))) in
    let f11 : half q 58 ≡ half b 58 = half-same 58 58 q b (o.front 58 2 (omega arith) (inr (omega arith)) (inl (omega arith))) in
    rw (f0, f1, f2, f3, f4, f5, f6, f7, f8, f9, f10, f11) refl

pub table-output : (b : List ℕ) (new : List NewEntry) (q : List ℕ) (hp np : ℕ) (nm : List ℕ) (place name : ℕ → ℕ)
    → Output b new q hp np nm place name → HasTable b → section_count b + length new ≤ 262144 → HasTable q
table-output b new q hp np nm place name o t few =
    let file = t.file_header in
    let n = t.counts.names in
    let c = o.count in
    let e = o.end in
    let h = o.headers in
    let behind = o.behind in
    let inside = o.names_inside in
    let s : shstrndx q ≡ shstrndx b = half-same 62 62 q b (o.front 62 2 (omega arith) (inr (omega arith)) (inr (omega arith))) in
    record {
      file_header = omega arith;
      target = target-output b new q hp np nm place name o file ∙ t.target;
      first_header = record { named = λ _ z. omega arith; inside = λ _. omega arith };
      counts = record {
        some = λ z. omega arith;
        plain = λ l. s ∙ t.counts.plain (omega arith);
        names = omega (arith, o.table);
      };
      few = omega arith;
      headers = omega arith;
    }

pub well_formed-output : (b : List ℕ) (new : List NewEntry) (q : List ℕ) (hp np : ℕ) (nm : List ℕ) (place name : ℕ → ℕ)
    → Output b new q hp np nm place name → IsWellFormed b → 0 < length new → section_count b + length new ≤ 262144
    → All (IsAddable (elf_of b) new) new → AllPairs AreApart new → IsWellFormed q
well_formed-output b new q hp np nm place name o w some few ok apart = record {
  table = table-output b new q hp np nm place name o w.table few;
  bodies = λ j h. bodies-output b new q hp np nm place name o w j h;
  forms = λ j h. forms-output (elf_of b) b new q hp np nm place name o w some ok j h;
  links = λ j h. links-output b new q hp np nm place name o w ok apart j h;
  names = λ j h. names-output b new q hp np nm place name o w some j h;
  few_symbols = (let sc = symbol_count-output b new q hp np nm place name o w ok in let f = w.few_symbols in omega arith);
  symbols = λ k h. symbols-output b new q hp np nm place name o w some ok k h;
  relocs = λ j h. relocs-output b new q hp np nm place name o w some ok j h;
  little_text = (let t = text-output b new q hp np nm place name o w ok in let l = w.little_text in omega arith);
}
