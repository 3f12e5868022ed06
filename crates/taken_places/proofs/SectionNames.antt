-- Where the names of sections stand in an object's file.
use Rattle.std.proofs.Common.{◌≡◌, ℕ, ◌+◌, ◌*◌, ◌-◌, ◌<◌, ◌≤◌, not, ◌==◌, List, take, drop, slice_range, length, arith, refl, sym, ap, ◌∙◌}
use Rattle.std.specs.List.{prefix_len}
use Rattle.elf_objects.specs.Contents.{section_at, section_entry}
use Rattle.elf_objects.specs.Elf.{Elf, SectionEntry}
use Rattle.elf_objects.specs.File.{headers_at, name_table, section_count, section_header}
use Rattle.elf_objects.specs.Header.{header_at}
use Rattle.elf_objects.specs.Object.{IsObject}
use Rattle.elf_objects.specs.Number.{word}
use Rattle.elf_objects.specs.Strings.{up_to_zero}
use Rattle.elf_objects.specs.Table.{body_of, name_header, string_at}
use Rattle.elf_objects.proofs.Read.{length-names, length-sections, section_at-entry}
use Rattle.text_numbers.specs.Ends.{end_from}
use Rattle.taken_places.specs.Marks.{section_names}

module _ (b : List ℕ) (o : Elf) (is : IsObject b o) (i : ℕ) (low : i < length o.sections) where
  known : i < section_count b
  known = let l = length-sections b o (sym is.says) in omega (arith, l, low)

  headers_are : o.headers_at ≡ headers_at b
  headers_are = ap (λ (x : Elf). x.headers_at) is.says

  -- the table is the body of the section of names
  names_are : section_names o ≡ body_of b (name_header b)
  unfolding section_entry
  names_are =
      let counts = is.well_formed.table.counts in
      ap (λ (x : Elf). (section_at o x.name_table).body) is.says
      ∙ ap (λ (s : SectionEntry). s.body) (section_at-entry b o (name_table b) (sym is.says) counts.names)

  -- a header lies in the file
  pub header_inside : o.headers_at + 64 * i + 64 ≤ length b
  header_inside = let h = is.well_formed.table.headers in let k = known in let e = headers_are in omega (arith, h, k, e)

  start_is : (at : ℕ) → at ≡ o.headers_at + 64 * i → word b at ≡ (section_header b i).name
  unfolding section_header header_at
  start_is at e = ap (word b) (e ∙ ap (λ n. n + 64 * i) headers_are)

  pub name_is : (at start : ℕ) → at ≡ o.headers_at + 64 * i → start ≡ word b at → up_to_zero (drop start (section_names o)) ≡ (section_at o i).name
  unfolding section_entry string_at
  name_is at start e f =
      let entry = section_at-entry b o i (sym is.says) known in
      rw (entry, f, start_is at e, names_are) refl

  pub name_inside : (at start : ℕ) → at ≡ o.headers_at + 64 * i → start ≡ word b at → start ≤ length (section_names o)
  name_inside at start e f =
      let size = length-names b is.well_formed in
      let name = (is.well_formed.names i known) in
      let s = start_is at e in
      let l : length (section_names o) ≡ length (body_of b (name_header b)) = ap (λ (t : List ℕ). length t) names_are in
      omega (arith, size, name, s, l, f)

-- a name ends before the first zero byte
pub name_range : (table : List ℕ) (start end : ℕ) (name : List ℕ) → end ≡ end_from table start → up_to_zero (drop start table) ≡ name → slice_range table start end ≡ name
unfolding up_to_zero
name_range table start end name e f =
    let n : end - start ≡ prefix_len (λ c. not (c == 0)) (drop start table) = omega (arith, e) in
    ap (λ k. take k (drop start table)) n ∙ f

pub end_behind : (table : List ℕ) (start end : ℕ) → end ≡ end_from table start → start ≤ end
end_behind table start end e = omega (arith, e)
