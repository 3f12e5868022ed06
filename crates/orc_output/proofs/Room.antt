-- How long an object with new sections is, and that the ORC sections leave it short enough.
use Rattle.std.proofs.Common.{◌≡◌, ℕ, ◌+◌, ◌*◌, ◌^◌, ◌<◌, ◌≤◌, List, [], ◌∷◌, length, arith, length-append}
use Rattle.std.proofs.lemmas.List.{length-replicate}
use Rattle.ot_base.specs.declared.row.PlacedRow.{PlacedRow}
use Rattle.elf_objects.specs.Contents.{section_symbol_of}
use Rattle.elf_objects.specs.Elf.{Elf}
use Rattle.elf_write.specs.Layout.{NewEntry, Input, aligned, all_names, bodies, end_of, extended, headers_place, new_names}
use Rattle.elf_write.specs.Object.{appended_to, input_of_object}
use Rattle.elf_write.proofs.Build.{IsInput, length-extended}
use Rattle.elf_write.proofs.Result.{length-headers_of}
use Rattle.orc_bytes.specs.Sections.{row_section, ip_section, rela_section}
use Rattle.orc_output.specs.OrcOutput.{CanHaveOrc, orc_sections}
use Rattle.orc_output.proofs.Known.{Known}
use Rattle.orc_output.proofs.Slots.{length-row_section, length-rela_section}

aligned-within : (n : ℕ) → aligned n ≤ n + 7
aligned-within n = omega arith

-- the bytes of the bodies
abbrev pub body_bytes : List NewEntry → ℕ
body_bytes [] = 0
body_bytes (e ∷ new) = length e.body + body_bytes new

-- where the last of the bodies ends, with the gaps
end_within : (at : ℕ) (new : List NewEntry) → end_of at (bodies new) ≤ at + body_bytes new + 7 * length new
end_within at [] = omega arith
end_within at (e ∷ new) =
    step (aligned at) at (length e.body) (body_bytes new) (length new) (end_of (aligned at + length e.body) (bodies new)) (length (e ∷ new))
    (aligned-within at) (end_within (aligned at + length e.body) new) (omega arith)
  where
    step : (a at p s n e m : ℕ) → a ≤ at + 7 → e ≤ a + p + s + 7 * n → m ≡ n + 1 → e ≤ at + (p + s) + 7 * m
    step a at p s n e m h k r = omega arith

-- the names and the headers of the object go once more to the file
pub length-added : (o : Elf) (new : List NewEntry) → Known o
    → length (extended (input_of_object o) new) ≤ 3 * length o.bytes + length (new_names new) + body_bytes new + 71 * length new + 14
length-added o new k =
    let i : Input = input_of_object o in
    let headers : length i.headers ≡ 64 * length o.sections = length-headers_of o k.headers in
    let ok : IsInput i = record { file_header = k.file; named = k.named; in_table = (let t = k.in_table in omega arith) } in
    let from : ℕ = aligned (length o.bytes) + length (all_names i new) in
    sums (length (extended i new)) (headers_place i new) (end_of from (bodies new)) (aligned (length o.bytes)) (length i.headers) (length o.bytes) (length (all_names i new)) (length i.names) (length (new_names new)) (body_bytes new) (length new) (length o.sections) o.headers_at
    (length-extended i new ok) (aligned-within (end_of from (bodies new))) (end_within from new) (aligned-within (length o.bytes)) (length-append i.names (new_names new)) k.names headers k.headers
  where
    sums : (l p q a h f all n s b m c at : ℕ) → l ≡ p + (h + 64 * m) → p ≤ q + 7 → q ≤ a + all + b + 7 * m → a ≤ f + 7 → all ≡ n + s → n ≤ f → h ≡ 64 * c → at + 64 * c ≤ f
        → l ≤ 3 * f + s + b + 71 * m + 14
    sums l p q a h f all n s b m c at e1 e2 e3 e4 e5 e6 e7 e8 = omega arith

pub room : (o : Elf) (rows : List PlacedRow) → Known o → CanHaveOrc o rows → length (appended_to o (orc_sections o rows)) < 2 ^ 32
room o rows k can =
    sums (length (appended_to o (orc_sections o rows))) (length o.bytes) (length (row_section rows)) (length (ip_section rows)) (length (rela_section (section_symbol_of o) rows)) (length rows)
    (length-added o (orc_sections o rows) k) (length-row_section rows) (length-replicate (4 * length rows) 0) (length-rela_section (section_symbol_of o) rows) can.short can.few_rows
  where
    sums : (l f x y z r : ℕ) → l ≤ 3 * f + 47 + (x + (y + (z + 0))) + 71 * 3 + 14 → x ≡ 6 * r → y ≡ 4 * r → z ≡ 24 * r → f ≤ 268435456 → r ≤ 67108865 → l < 2 ^ 32
    sums l f x y z r e1 e2 e3 e4 e5 e6 = omega arith
