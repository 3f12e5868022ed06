-- The fields of a header after its changes.
use Rattle.std.proofs.Common.{◌≡◌, ◌≢◌, inl, inr, ℕ, zero, suc, ◌+◌, ◌*◌, ◌^◌, ◌<◌, ◌≤◌, List, [], ◌∷◌, length, false, eqb, refl, sym, ◌∙◌, arith}
use Rattle.std.specs.Prelude.{All, ◌==◌, if◌then◌else◌}
use Rattle.std.proofs.lemmas.Bool.{cases_eq, ne_eqb}
use Rattle.std.proofs.lemmas.List.{append-nil}
use Rattle.std.proofs.lemmas.List.Elements.{All-nil}
use Rattle.elf_objects.specs.Elf.{SectionEntry}
use Rattle.elf_objects.specs.Header.{header_at}
use Rattle.elf_objects.specs.Number.{word, xword}
use Rattle.elf_objects.specs.declared.TheConstants.{SHT_SYMTAB, SHT_GROUP, SHT_SYMTAB_SHNDX}
use Rattle.elf_objects.specs.declared.header.SectionHeader.{SectionHeader}
use Rattle.elf_write.specs.Layout.{encoded, written}
use Rattle.elf_write.proofs.Lists.{length-encoded, length-written}
use Rattle.elf_write.proofs.Numbers.{word-encoded, word-same, xword-same}
use Rattle.elf_write.proofs.Output.{Outside, xword-part}
use Rattle.elf_write.proofs.Parts.{part, part-inside, part-whole}
use Rattle.elf_write.specs.declared.plan.Plan.{Plan}
use Rattle.elf_write.specs.SymbolLayout.{Change, changed, group_changes, number_changes, renumbered, symbol_changes}
use Rattle.elf_write.proofs.Edits.{Avoids, Fits, part-avoid}
use Rattle.elf_write.proofs.Regions.{group_fits, numbers_fit, symbols_fit}

pub word-part : (xs : List ℕ) (a x : ℕ) → part a 4 xs ≡ encoded 4 x → x < 2 ^ 32 → word xs a ≡ x
word-part xs a x e h =
    word-same a 0 xs (encoded 4 x) (e ∙ sym (part-whole 4 (encoded 4 x) (length-encoded 4 x)))
    ∙ word-encoded (encoded 4 x) [] 0 x (sym (append-nil (encoded 4 x))) h

-- a field that no change touches
word-kept : (cs : List Change) (xs : List ℕ) (a : ℕ) → length xs ≡ 64 → All (Fits 64) cs → All (Avoids a 4) cs → word (changed cs xs) a ≡ word xs a
word-kept cs xs a l f g = word-same a a (changed cs xs) xs (part-avoid cs xs 64 a 4 l f g)

xword-kept : (cs : List Change) (xs : List ℕ) (a : ℕ) → length xs ≡ 64 → All (Fits 64) cs → All (Avoids a 8) cs → xword (changed cs xs) a ≡ xword xs a
xword-kept cs xs a l f g = xword-same a a (changed cs xs) xs (part-avoid cs xs 64 a 8 l f g)

written-64 : (at w n : ℕ) (xs : List ℕ) → length xs ≡ 64 → at + w ≤ 64 → length (written at (encoded w n) xs) ≡ 64
written-64 at w n xs l h =
    let e = length-encoded w n in
    length-written at (encoded w n) xs (omega arith) ∙ l

-- what a change writes, where no later one touches it
part-last : (at w n : ℕ) (cs : List Change) (xs : List ℕ) → length xs ≡ 64 → at + w ≤ 64 → All (Fits 64) cs → All (Avoids at w) cs
    → part at w (changed cs (written at (encoded w n) xs)) ≡ encoded w n
part-last at w n cs xs l h f g =
    let e = length-encoded w n in
    part-avoid cs (written at (encoded w n) xs) 64 at w (written-64 at w n xs l h) f g
    ∙ part-inside at 0 w at (encoded w n) xs (omega arith) (omega arith) (omega arith)
    ∙ part-whole w (encoded w n) e

avoid3 : (p : Plan) (s : SectionEntry) (a w : ℕ) → Outside a w 24 8 → Outside a w 32 8 → Outside a w 44 4 → All (Avoids a w) (symbol_changes p s)
avoid3 p s a w x y z zero d lt = x
avoid3 p s a w x y z (suc zero) d lt = y
avoid3 p s a w x y z (suc (suc zero)) d lt = z
avoid3 p s a w x y z (suc (suc (suc k))) d lt = absurd (omega arith)

avoid2 : (p : Plan) (s : SectionEntry) (a w : ℕ) → Outside a w 24 8 → Outside a w 32 8 → All (Avoids a w) (number_changes p s)
avoid2 p s a w x y zero d lt = x
avoid2 p s a w x y (suc zero) d lt = y
avoid2 p s a w x y (suc (suc k)) d lt = absurd (omega arith)

avoid1 : (p : Plan) (s : SectionEntry) (a w : ℕ) → Outside a w 44 4 → All (Avoids a w) (group_changes p s)
avoid1 p s a w x zero d lt = x
avoid1 p s a w x (suc k) d lt = absurd (omega arith)

fits_tail : (c : Change) (cs : List Change) → All (Fits 64) (c ∷ cs) → All (Fits 64) cs
fits_tail c cs h k d lt = h (suc k) d (omega arith)

one_avoids : (a w : ℕ) (c : Change) → Avoids a w c → All (Avoids a w) (c ∷ [])
one_avoids a w c h zero d lt = h
one_avoids a w c h (suc k) d lt = absurd (omega arith)

two_avoid : (a w : ℕ) (c e : Change) → Avoids a w c → Avoids a w e → All (Avoids a w) (c ∷ e ∷ [])
two_avoid a w c e h g zero d lt = h
two_avoid a w c e h g (suc zero) d lt = g
two_avoid a w c e h g (suc (suc k)) d lt = absurd (omega arith)

pub read_symbols : (p : Plan) (s : SectionEntry) (xs : List ℕ) → length xs ≡ 64 → p.symbols_at < 2 ^ 64 → s.size + 24 * p.count < 2 ^ 64 → s.info + p.count < 2 ^ 32
    → header_at (changed (symbol_changes p s) xs) 0 ≡ record (header_at xs 0) { offset = p.symbols_at; size = s.size + 24 * p.count; info = s.info + p.count }
unfolding header_at
read_symbols p s xs l h1 h2 h3 =
    let cs : List Change = symbol_changes p s in
    let c1 : Change = record { at = 24; width = 8; number = p.symbols_at } in
    let c2 : Change = record { at = 32; width = 8; number = s.size + 24 * p.count } in
    let c3 : Change = record { at = 44; width = 4; number = s.info + p.count } in
    let f = symbols_fit p s in
    let t2 : All (Fits 64) (c2 ∷ c3 ∷ []) = fits_tail c1 (c2 ∷ c3 ∷ []) f in
    let t3 : All (Fits 64) (c3 ∷ []) = fits_tail c2 (c3 ∷ []) t2 in
    let x1 : List ℕ = written 24 (encoded 8 p.symbols_at) xs in
    let x2 : List ℕ = written 32 (encoded 8 (s.size + 24 * p.count)) x1 in
    let l1 : length x1 ≡ 64 = written-64 24 8 p.symbols_at xs l (omega arith) in
    let l2 : length x2 ≡ 64 = written-64 32 8 (s.size + 24 * p.count) x1 l1 (omega arith) in
    let y : List ℕ = changed cs xs in
    let f0 : word y 0 ≡ word xs 0 = word-kept cs xs 0 l f (avoid3 p s 0 4 (inl (omega arith)) (inl (omega arith)) (inl (omega arith))) in
    let f1 : word y 4 ≡ word xs 4 = word-kept cs xs 4 l f (avoid3 p s 4 4 (inl (omega arith)) (inl (omega arith)) (inl (omega arith))) in
    let f2 : xword y 8 ≡ xword xs 8 = xword-kept cs xs 8 l f (avoid3 p s 8 8 (inl (omega arith)) (inl (omega arith)) (inl (omega arith))) in
    let f3 : xword y 16 ≡ xword xs 16 = xword-kept cs xs 16 l f (avoid3 p s 16 8 (inl (omega arith)) (inl (omega arith)) (inl (omega arith))) in
    let f4 : xword y 24 ≡ p.symbols_at = xword-part y 24 p.symbols_at
    (part-last 24 8 p.symbols_at (c2 ∷ c3 ∷ []) xs l (omega arith) t2 (two_avoid 24 8 c2 c3 (inl (omega arith)) (inl (omega arith)))) h1 in
    let f5 : xword y 32 ≡ s.size + 24 * p.count = xword-part y 32 (s.size + 24 * p.count)
    (part-last 32 8 (s.size + 24 * p.count) (c3 ∷ []) x1 l1 (omega arith) t3 (one_avoids 32 8 c3 (inl (omega arith)))) h2 in
    let f6 : word y 40 ≡ word xs 40 = word-kept cs xs 40 l f (avoid3 p s 40 4 (inr (omega arith)) (inr (omega arith)) (inl (omega arith))) in
    let f7 : word y 44 ≡ s.info + p.count = word-part y 44 (s.info + p.count)
    (part-last 44 4 (s.info + p.count) [] x2 l2 (omega arith) (All-nil (Fits 64)) (All-nil (Avoids 44 4))) h3 in
    let f8 : xword y 48 ≡ xword xs 48 = xword-kept cs xs 48 l f (avoid3 p s 48 8 (inr (omega arith)) (inr (omega arith)) (inr (omega arith))) in
    let f9 : xword y 56 ≡ xword xs 56 = xword-kept cs xs 56 l f (avoid3 p s 56 8 (inr (omega arith)) (inr (omega arith)) (inr (omega arith))) in
    rw (f0, f1, f2, f3, f4, f5, f6, f7, f8, f9) refl

pub read_numbers : (p : Plan) (s : SectionEntry) (xs : List ℕ) → length xs ≡ 64 → p.numbers_at < 2 ^ 64 → s.size + 4 * p.count < 2 ^ 64
    → header_at (changed (number_changes p s) xs) 0 ≡ record (header_at xs 0) { offset = p.numbers_at; size = s.size + 4 * p.count }
unfolding header_at
read_numbers p s xs l h1 h2 =
    let cs : List Change = number_changes p s in
    let c1 : Change = record { at = 24; width = 8; number = p.numbers_at } in
    let c2 : Change = record { at = 32; width = 8; number = s.size + 4 * p.count } in
    let f = numbers_fit p s in
    let t2 : All (Fits 64) (c2 ∷ []) = fits_tail c1 (c2 ∷ []) f in
    let x1 : List ℕ = written 24 (encoded 8 p.numbers_at) xs in
    let l1 : length x1 ≡ 64 = written-64 24 8 p.numbers_at xs l (omega arith) in
    let y : List ℕ = changed cs xs in
    let f0 : word y 0 ≡ word xs 0 = word-kept cs xs 0 l f (avoid2 p s 0 4 (inl (omega arith)) (inl (omega arith))) in
    let f1 : word y 4 ≡ word xs 4 = word-kept cs xs 4 l f (avoid2 p s 4 4 (inl (omega arith)) (inl (omega arith))) in
    let f2 : xword y 8 ≡ xword xs 8 = xword-kept cs xs 8 l f (avoid2 p s 8 8 (inl (omega arith)) (inl (omega arith))) in
    let f3 : xword y 16 ≡ xword xs 16 = xword-kept cs xs 16 l f (avoid2 p s 16 8 (inl (omega arith)) (inl (omega arith))) in
    let f4 : xword y 24 ≡ p.numbers_at = xword-part y 24 p.numbers_at
    (part-last 24 8 p.numbers_at (c2 ∷ []) xs l (omega arith) t2 (one_avoids 24 8 c2 (inl (omega arith)))) h1 in
    let f5 : xword y 32 ≡ s.size + 4 * p.count = xword-part y 32 (s.size + 4 * p.count)
    (part-last 32 8 (s.size + 4 * p.count) [] x1 l1 (omega arith) (All-nil (Fits 64)) (All-nil (Avoids 32 8))) h2 in
    let f6 : word y 40 ≡ word xs 40 = word-kept cs xs 40 l f (avoid2 p s 40 4 (inr (omega arith)) (inr (omega arith))) in
    let f7 : word y 44 ≡ word xs 44 = word-kept cs xs 44 l f (avoid2 p s 44 4 (inr (omega arith)) (inr (omega arith))) in
    let f8 : xword y 48 ≡ xword xs 48 = xword-kept cs xs 48 l f (avoid2 p s 48 8 (inr (omega arith)) (inr (omega arith))) in
    let f9 : xword y 56 ≡ xword xs 56 = xword-kept cs xs 56 l f (avoid2 p s 56 8 (inr (omega arith)) (inr (omega arith))) in
    rw (f0, f1, f2, f3, f4, f5, f6, f7, f8, f9) refl

pub read_group : (p : Plan) (s : SectionEntry) (xs : List ℕ) → length xs ≡ 64 → renumbered p.locals p.count s.info < 2 ^ 32
    → header_at (changed (group_changes p s) xs) 0 ≡ record (header_at xs 0) { info = renumbered p.locals p.count s.info }
unfolding header_at
read_group p s xs l h =
    let cs : List Change = group_changes p s in
    let n : ℕ = renumbered p.locals p.count s.info in
    let f = group_fits p s in
    let y : List ℕ = changed cs xs in
    let f0 : word y 0 ≡ word xs 0 = word-kept cs xs 0 l f (avoid1 p s 0 4 (inl (omega arith))) in
    let f1 : word y 4 ≡ word xs 4 = word-kept cs xs 4 l f (avoid1 p s 4 4 (inl (omega arith))) in
    let f2 : xword y 8 ≡ xword xs 8 = xword-kept cs xs 8 l f (avoid1 p s 8 8 (inl (omega arith))) in
    let f3 : xword y 16 ≡ xword xs 16 = xword-kept cs xs 16 l f (avoid1 p s 16 8 (inl (omega arith))) in
    let f4 : xword y 24 ≡ xword xs 24 = xword-kept cs xs 24 l f (avoid1 p s 24 8 (inl (omega arith))) in
    let f5 : xword y 32 ≡ xword xs 32 = xword-kept cs xs 32 l f (avoid1 p s 32 8 (inl (omega arith))) in
    let f6 : word y 40 ≡ word xs 40 = word-kept cs xs 40 l f (avoid1 p s 40 4 (inl (omega arith))) in
    let f7 : word y 44 ≡ n = word-part y 44 n (part-last 44 4 n [] xs l (omega arith) (All-nil (Fits 64)) (All-nil (Avoids 44 4))) h in
    let f8 : xword y 48 ≡ xword xs 48 = xword-kept cs xs 48 l f (avoid1 p s 48 8 (inr (omega arith))) in
    let f9 : xword y 56 ≡ xword xs 56 = xword-kept cs xs 56 l f (avoid1 p s 56 8 (inr (omega arith))) in
    rw (f0, f1, f2, f3, f4, f5, f6, f7, f8, f9) refl

-- a header after the changes
abbrev pub header_with : Plan → SectionHeader → SectionHeader
header_with p h =
    if h.kind == SHT_SYMTAB then record h { offset = p.symbols_at; size = h.size + 24 * p.count; info = h.info + p.count }
    else if h.kind == SHT_SYMTAB_SHNDX then record h { offset = p.numbers_at; size = h.size + 4 * p.count }
    else if h.kind == SHT_GROUP then record h { info = renumbered p.locals p.count h.info }
    else h

pub with_symtab : (p : Plan) (h : SectionHeader) → h.kind ≡ SHT_SYMTAB
    → header_with p h ≡ record h { offset = p.symbols_at; size = h.size + 24 * p.count; info = h.info + p.count }
with_symtab p h e = rw e refl

pub with_numbers : (p : Plan) (h : SectionHeader) → h.kind ≡ SHT_SYMTAB_SHNDX
    → header_with p h ≡ record h { offset = p.numbers_at; size = h.size + 4 * p.count }
with_numbers p h e = rw e refl

pub with_group : (p : Plan) (h : SectionHeader) → h.kind ≡ SHT_GROUP → header_with p h ≡ record h { info = renumbered p.locals p.count h.info }
with_group p h e = rw e refl

pub with_other : (p : Plan) (h : SectionHeader) → h.kind ≢ SHT_SYMTAB → h.kind ≢ SHT_SYMTAB_SHNDX → h.kind ≢ SHT_GROUP → header_with p h ≡ h
with_other p h a c d =
    let e : eqb h.kind SHT_SYMTAB ≡ false = ne_eqb h.kind SHT_SYMTAB a in
    let f : eqb h.kind SHT_SYMTAB_SHNDX ≡ false = ne_eqb h.kind SHT_SYMTAB_SHNDX c in
    let g : eqb h.kind SHT_GROUP ≡ false = ne_eqb h.kind SHT_GROUP d in
    rw (e, f, g) refl

-- which it is
pub data Case (h : SectionHeader) : Type 0 where
  symtab : h.kind ≡ SHT_SYMTAB → Case h
  numbers : h.kind ≡ SHT_SYMTAB_SHNDX → Case h
  group : h.kind ≡ SHT_GROUP → Case h
  other : h.kind ≢ SHT_SYMTAB → h.kind ≢ SHT_SYMTAB_SHNDX → h.kind ≢ SHT_GROUP → Case h

pub case_of : (h : SectionHeader) → Case h
case_of h = elim (cases_eq h.kind SHT_SYMTAB) [
  | inl a ↦ symtab a
  | inr na ↦ elim (cases_eq h.kind SHT_SYMTAB_SHNDX) [
    | inl c ↦ numbers c
    | inr nc ↦ elim (cases_eq h.kind SHT_GROUP) [
      | inl d ↦ group d
      | inr nd ↦ other na nc nd
    ]
  ]
]

-- what stays
pub record Keeps (h g : SectionHeader) : Type 0 where
  pub name : g.name ≡ h.name
  pub kind : g.kind ≡ h.kind
  pub flags : g.flags ≡ h.flags
  pub link : g.link ≡ h.link
  pub entsize : g.entsize ≡ h.entsize
  pub size : h.size ≤ g.size

pub keeps : (p : Plan) (h : SectionHeader) → Case h → Keeps h (header_with p h)
keeps p h (symtab e) = rw (with_symtab p h e) (record { name = refl; kind = refl; flags = refl; link = refl; entsize = refl; size = omega arith })
keeps p h (numbers e) = rw (with_numbers p h e) (record { name = refl; kind = refl; flags = refl; link = refl; entsize = refl; size = omega arith })
keeps p h (group e) = rw (with_group p h e) (record { name = refl; kind = refl; flags = refl; link = refl; entsize = refl; size = omega arith })
keeps p h (other a c d) = rw (with_other p h a c d) (record { name = refl; kind = refl; flags = refl; link = refl; entsize = refl; size = omega arith })
