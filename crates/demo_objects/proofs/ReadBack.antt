-- What is read of the file of some sections.
use Rattle.std.proofs.Common.{◌≡◌, ℕ, suc, ◌+◌, ◌-◌, ◌*◌, ◌^◌, ◌<◌, ◌≤◌, List, [], ◌∷◌, ◌++◌, length, take, drop, get_or, refl, sym, ap, ◌∙◌, arith, length-append, None}
use Rattle.std.specs.Prelude.{All}
use Rattle.std.proofs.lemmas.Bool.Decides.{nat_tests}
use Rattle.std.proofs.lemmas.List.{take-append-drop, take_all}
use Rattle.std.proofs.lemmas.List.Concat.{flat_map-append}
use Rattle.std.proofs.lemmas.List.Elements.{All-take}
use Rattle.elf_objects.specs.Header.{header_at}
use Rattle.elf_objects.specs.File.{headers_at, name_table, section_count, section_header, shnum, shstrndx, wrong_field}
use Rattle.elf_objects.specs.declared.header.SectionHeader.{SectionHeader}
use Rattle.elf_write.specs.Added.{HasFields}
use Rattle.elf_write.specs.Layout.{NewEntry, header_bytes, header_for, long_count, new_names, short_count}
use Rattle.elf_write.proofs.Headers.{HasRoom, header-bytes, part-header_table}
use Rattle.elf_write.proofs.Numbers.{header-same}
use Rattle.elf_write.proofs.Parts.{part, part-whole}
use Rattle.elf_write.proofs.Sizes.{length-header_bytes}
use Rattle.demo_objects.specs.Layout.{bodies_end, file_of, first_header, headers_from, headers_place, long_index, short_index}
use Rattle.demo_objects.proofs.FileHeader.{begins, tells-headers}
use Rattle.demo_objects.proofs.Placed.{bodies_end-next, entry_at, file-body, file-table, get_or-headers_from, name_at, place_at}
use Rattle.demo_objects.proofs.Sizes.{AreAligned, fits, le-bodies_end, le-next_multiple, length-file_of, length-headers_from}

-- sections whose file is read
pub record HasSpace (es : List NewEntry) : Type 0 where
  pub aligned : AreAligned es
  pub fields : All HasFields es
  pub few : length es < 262144
  pub short : length (file_of es) < 2 ^ 32
  pub names : 1 + length (new_names es) < 2 ^ 32

-- b is the file of the sections es
pub record Reads (es : List NewEntry) (b : List ℕ) : Type 0 where
  pub target : wrong_field b ≡ None
  pub headers : headers_at b ≡ headers_place es
  pub index : shstrndx b ≡ short_index (length es)
  pub count : section_count b ≡ length es + 1
  pub table : name_table b ≡ length es
  pub first : section_header b 0 ≡ first_header (length es + 1)
  pub others : (k : ℕ) → k < length es → section_header b (suc k) ≡ header_for (name_at es k) (place_at es k) (entry_at es k)
  pub body_part : (k : ℕ) → k < length es → part (place_at es k) (length (entry_at es k).body) b ≡ (entry_at es k).body
  pub apart : (j k : ℕ) → j < k → k < length es → place_at es j + length (entry_at es j).body ≤ place_at es k
  pub inside : (k : ℕ) → k < length es → place_at es k + length (entry_at es k).body ≤ headers_place es
  pub behind : (k : ℕ) → k < length es → 64 ≤ place_at es k
  pub end : length b ≡ headers_place es + 64 * (length es + 1)
  pub short : length b < 2 ^ 32

pub name-fits : (es : List NewEntry) (k : ℕ) → name_at es k ≤ 1 + length (new_names es)
name-fits es k =
    let cut : new_names es ≡ new_names (take k es) ++ new_names (drop k es) =
    ap new_names (sym (take-append-drop k es)) ∙ flat_map-append (λ (x : NewEntry). x.name ++ 0 ∷ []) (take k es) (drop k es) in
    omega (arith, ap length cut, length-append (new_names (take k es)) (new_names (drop k es)))

-- a header with a number is read
header-read : (es : List NewEntry) (i : ℕ) (h : SectionHeader) → HasSpace es → headers_at (file_of es) ≡ headers_place es → i < length es + 1
    → get_or (first_header (length es + 1) ∷ headers_from 1 64 es) i h ≡ h → HasRoom h → section_header (file_of es) i ≡ h
unfolding section_header
header-read es i h space at inside is r =
    let p : ℕ = headers_at (file_of es) + 64 * i in
    let hs : List SectionHeader = first_header (length es + 1) ∷ headers_from 1 64 es in
    let n : length hs ≡ length es + 1 = ap (λ (m : ℕ). suc m) (length-headers_from 1 64 es) ∙ omega arith in
    let l = length-header_bytes h in
    header-same p 0 (file_of es) (header_bytes h)
    (file-table es p (64 * i) 64 space.aligned (omega arith)
    ∙ part-header_table hs i h (omega arith)
    ∙ ap header_bytes is
    ∙ sym (part-whole 64 (header_bytes h) l))
    ∙ header-bytes h r

first_at : (b : List ℕ) → section_header b 0 ≡ header_at b (headers_at b)
unfolding section_header
first_at b = ap (header_at b) (omega arith)

count-is : (b : List ℕ) (n : ℕ) → 1 ≤ n → section_header b 0 ≡ first_header n → shnum b ≡ short_count n → section_count b ≡ n
unfolding section_count
count-is b n some first short =
    let f : (header_at b (headers_at b)).size ≡ long_count n = ap (λ (h : SectionHeader). h.size) (sym (first_at b) ∙ first) in
    rw (short, f) (grind (arith, nat_tests))

table-is : (b : List ℕ) (n : ℕ) → n < 2 ^ 32 → section_header b 0 ≡ first_header (n + 1) → shstrndx b ≡ short_index n → name_table b ≡ n
unfolding name_table
table-is b n few first short =
    let m : n + 1 - 1 ≡ n = omega arith in
    let f : (header_at b (headers_at b)).link ≡ long_index n = ap (λ (h : SectionHeader). h.link) (sym (first_at b) ∙ first) ∙ ap long_index m in
    rw (short, f) (grind (arith, nat_tests))

pub reads : (es : List NewEntry) → HasSpace es → Reads es (file_of es)
reads es space =
    let b : List ℕ = file_of es in
    let n : ℕ = length es + 1 in
    let end = length-file_of es space.aligned in
    let f = fits es space.aligned space.short in
    let few = space.few in
    let start = begins es in
    let fh = f.headers in
    let t = tells-headers b start.0 (headers_place es) n start.1 (omega arith) in
    let m : n - 1 ≡ length es = omega arith in
    let whole : take (length es) es ≡ es = take_all (length es) es (omega arith) in
    let last : bodies_end 64 (take (length es) es) ≡ bodies_end 64 es = ap (bodies_end 64) whole in
    let over = le-next_multiple 8 (bodies_end 64 es) (omega arith) in
    let long : long_count n < 2 ^ 64 = grind (arith, nat_tests) in
    let link : long_index (n - 1) < 2 ^ 32 = grind (arith, nat_tests) in
    let first : section_header b 0 ≡ first_header n =
    header-read es 0 (first_header n) space t.place (omega arith) refl
    (record { name = omega arith; kind = omega arith; flags = omega arith; addr = omega arith; offset = omega arith; size = long; link = link; info = omega arith; align = omega arith; entsize = omega arith }) in
    let inside : (k : ℕ) → k < length es → place_at es k + length (entry_at es k).body ≤ headers_place es =
    λ k h. (let next = bodies_end-next 64 es k (length es) space.aligned h h in omega arith) in
    let index : shstrndx b ≡ short_index (length es) = t.names ∙ ap short_index m in
    record {
      target = t.target;
      headers = t.place;
      index = index;
      count = count-is b n (omega arith) first t.number;
      table = table-is b (length es) (omega arith) first index;
      first = first;
      others = λ k h.
          (let e : NewEntry = entry_at es k in
          let hk : SectionHeader = header_for (name_at es k) (place_at es k) e in
          let fs : HasFields e = space.fields k _ h in
          let i = inside k h in
          let l = name-fits es k in
          let names = space.names in
          header-read es (suc k) hk space t.place (omega arith) (get_or-headers_from 1 64 es k hk h)
          (record { name = omega arith; kind = fs.kind; flags = fs.flags; addr = omega arith; offset = omega arith; size = omega arith; link = fs.link; info = fs.info; align = fs.align; entsize = fs.entsize }));
      body_part = λ k h. file-body es k space.aligned h;
      apart = λ j k lower h.
          (let next = bodies_end-next 64 es j k space.aligned lower (omega arith) in
          let up = le-next_multiple (entry_at es k).align (bodies_end 64 (take k es)) (space.aligned k _ h) in
          omega arith);
      inside = inside;
      behind = λ k h.
          (let low = le-bodies_end 64 (take k es) (All-take (λ (x : NewEntry). 1 ≤ x.align) k es space.aligned) in
          let up = le-next_multiple (entry_at es k).align (bodies_end 64 (take k es)) (space.aligned k _ h) in
          omega arith);
      end = end;
      short = space.short;
    }
