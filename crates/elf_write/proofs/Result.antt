-- The file that is written is that of the object with the new sections.
use Rattle.std.proofs.Common.{◌≡◌, ℕ, ◌+◌, ◌-◌, ◌*◌, ◌<◌, ◌≤◌, ◌^◌, List, [], ◌∷◌, length, take, drop, refl, sym, ap, subst, ◌∙◌, arith, length-drop}
use Rattle.std.proofs.lemmas.List.{length-take-le}
use Rattle.std.specs.Prelude.{All, slice_range}
use Rattle.elf_objects.specs.Contents.{elf_of, section_at}
use Rattle.elf_objects.specs.Elf.{Elf}
use Rattle.elf_objects.specs.File.{section_count}
use Rattle.elf_objects.specs.Object.{IsObject, IsWellFormed}
use Rattle.elf_write.specs.Added.{CanAdd, HasFields, extended_as, object_with}
use Rattle.elf_write.specs.Layout.{NewEntry, Input, extended}
use Rattle.elf_write.specs.Object.{appended_to, input_of_object}
use Rattle.elf_write.proofs.Cases.{named}
use Rattle.elf_write.proofs.Facts.{output}
use Rattle.elf_write.proofs.Links.{length-sections}
use Rattle.elf_write.proofs.Output.{Base, input_at}
use Rattle.elf_write.proofs.Reading.{says}
use Rattle.elf_write.proofs.Says.{input_is}
use Rattle.elf_write.proofs.WellFormed.{well_formed-output}

-- the bytes of an object with one section or more
at_bytes : (b : List ℕ) (e : NewEntry) (new : List NewEntry) → IsWellFormed b → CanAdd (elf_of b) (e ∷ new)
    → IsObject (appended_to (elf_of b) (e ∷ new)) (object_with (elf_of b) (e ∷ new))
at_bytes b e new w can =
    let all : List NewEntry = e ∷ new in
    let is : input_of_object (elf_of b) ≡ input_at b = input_is b w in
    let l : length (elf_of b).sections ≡ section_count b = length-sections b in
    let few : section_count b + length all ≤ 262144 = (let f = can.few in omega arith) in
    let short : length (extended (input_at b) all) < 2 ^ 32 = subst (λ (i : Input). length (extended i all) < 2 ^ 32) is can.size in
    let base : Base b all = record {
      file = w.table.file_header;
      named = named b w;
      in_table = w.table.counts.names;
      holds = w.table.headers;
      some = omega arith;
      few = few;
      short = short;
    } in
    let fields : All HasFields all = λ k d h. (can.each k d h).fields in
    let o = output b all base fields in
    let ok : IsObject (extended (input_at b) all) (extended_as (input_at b) (elf_of b) all) = record {
      well_formed = well_formed-output b all _ _ _ _ _ _ o w (omega arith) few can.each can.apart;
      says = says b all o w can.each;
    } in
    subst (λ (i : Input). IsObject (extended i all) (extended_as i (elf_of b) all)) (sym is) ok

-- the whole: with the new sections behind it, an object is an object again, and says what it said and what they say
pub appended-is_object : (b : List ℕ) (o : Elf) (new : List NewEntry) → IsObject b o → CanAdd o new
    → IsObject (appended_to o new) (object_with o new)
appended-is_object b o [] ok can =
    let same : o.bytes ≡ b = ap (λ (x : Elf). x.bytes) ok.says in
    subst (λ (x : List ℕ). IsObject x o) (sym same) ok
appended-is_object b o (e ∷ new) ok can =
    subst (λ (x : Elf). IsObject (appended_to x (e ∷ new)) (object_with x (e ∷ new))) (sym ok.says)
    (at_bytes b e new ok.well_formed (subst (λ (x : Elf). CanAdd x (e ∷ new)) ok.says can))

-- what is known of the parts of an object
pub record Holds (b : List ℕ) (o : Elf) : Type 0 where
  pub bytes : o.bytes ≡ b
  pub file : 64 ≤ length b
  pub headers : o.headers_at + 64 * length o.sections ≤ length b
  pub named : 1 ≤ o.name_table
  pub in_table : o.name_table < length o.sections

pub holds : (b : List ℕ) (o : Elf) → IsObject b o → Holds b o
holds b o ok =
    let w = ok.well_formed in
    let l = length-sections b in
    let h = w.table.headers in
    let n = named b w in
    let t = w.table.counts.names in
    subst (Holds b) (sym ok.says) (record {
      bytes = refl;
      file = w.table.file_header;
      headers = omega arith;
      named = n;
      in_table = omega arith;
    })

-- an input by its parts
abbrev input_with : List ℕ → List ℕ → ℕ → List ℕ → Input
input_with bytes headers table names = record { bytes = bytes; headers = headers; name_table = table; names = names }

same_input : (b b' h h' : List ℕ) (t t' : ℕ) (n n' : List ℕ) → b ≡ b' → h ≡ h' → t ≡ t' → n ≡ n' → input_with b h t n ≡ input_with b' h' t' n'
same_input b b' h h' t t' n n' a c d e = rw (a, c, d, e) refl

pub input_from : (o : Elf) (i : Input) → i.bytes ≡ o.bytes → i.headers ≡ slice_range o.bytes o.headers_at (o.headers_at + 64 * length o.sections)
    → i.name_table ≡ o.name_table → i.names ≡ (section_at o o.name_table).body → i ≡ input_of_object o
input_from o i a c d e = same_input i.bytes o.bytes i.headers _ i.name_table o.name_table i.names _ a c d e

-- the headers take 64 bytes each
pub length-headers_of : (o : Elf) → o.headers_at + 64 * length o.sections ≤ length o.bytes
    → length (slice_range o.bytes o.headers_at (o.headers_at + 64 * length o.sections)) ≡ 64 * length o.sections
length-headers_of o h =
    let e : o.headers_at + 64 * length o.sections - o.headers_at ≡ 64 * length o.sections = omega arith in
    let d = length-drop o.headers_at o.bytes in
    ap (λ (n : ℕ). length (take n (drop o.headers_at o.bytes))) e ∙ length-take-le (64 * length o.sections) (drop o.headers_at o.bytes) (omega arith)
