use Rattle.std.proofs.Common.{◌≡◌, ℕ, ◌+◌, ◌*◌, ◌/◌, ◌++◌, ◌<◌, ◌≤◌, ◌^◌, List, length, refl, sym, ◌∙◌, ap, arith, length-append}
use Rattle.std.proofs.lemmas.Bool.Decides.{nat_tests}
use Rattle.std.proofs.lemmas.List.{length-map}
use Rattle.elf_write.specs.declared.section.NewSection.{NewSection}
use Rattle.elf_write.specs.Layout.{NewEntry, Input, all_names, appended, aligned, bodies, changed_headers, changed_input, end_of, count_of, pieces, headers_place, names_place, added_headers, header_table, new_names}
use Rattle.elf_write.specs.New.{entries, entry_of, input_of}
use Rattle.elf_write.proofs.Build.{IsInput, Fit, fit, built, appended-some, names_built}
use Rattle.elf_write.proofs.input.append_to.Goals as goal

-- what follows from the size of the result
fits : (i : Input) (new : List NewSection) → 64 ≤ length i.bytes → 1 ≤ i.name_table → 64 * i.name_table + 64 ≤ length i.headers
    → 0 < length new → length (appended i (entries new)) < 2 ^ 32 → Fit i (entries new)
fits i new a b d some h =
    let l : length (entries new) ≡ length new = length-map new entry_of in
    fit i (entries new) (record { file_header = a; named = b; in_table = d }) (omega arith) h

pub size_of_names-requires : goal.size_of_names-requires
size_of_names-requires c =
    let i : Input = input_of c.args.input.now in
    let new : List NewSection = c.args.new.now in
    let some : 0 < length new = grind (arith, nat_tests) in
    let f : Fit i (entries new) = fits i new c.requires.file_header c.requires.named c.requires.in_table some c.requires.size in
    omega (arith, f.names, f.names_end, f.total)

pub overflow_add-names_size : goal.overflow_add-names_size
overflow_add-names_size c =
    let i : Input = input_of c.args.input.now in
    let new : List NewSection = c.args.new.now in
    let some : 0 < length new = grind (arith, nat_tests) in
    let f : Fit i (entries new) = fits i new c.requires.file_header c.requires.named c.requires.in_table some c.requires.size in
    omega (arith, f.names, f.names_end, f.total)

pub overflow_add-names_end : goal.overflow_add-names_end
overflow_add-names_end c =
    let i : Input = input_of c.args.input.now in
    let new : List NewSection = c.args.new.now in
    let some : 0 < length new = grind (arith, nat_tests) in
    let f : Fit i (entries new) = fits i new c.requires.file_header c.requires.named c.requires.in_table some c.requires.size in
    omega (arith, f.names, f.names_end, f.total)

-- where the new names end in the file
names_end_is : (i : Input) (new : List NewEntry) (at size : ℕ) → at ≡ aligned (length i.bytes) → size ≡ length (new_names new)
    → end_of (at + (length i.names + size)) (bodies new) ≡ end_of (length i.bytes) (pieces i new)
names_end_is i new at size a s =
    ap (λ (n : ℕ). end_of n (bodies new)) (omega (arith, length-append i.names (new_names new)))

pub end_of_bodies-requires : goal.end_of_bodies-requires
end_of_bodies-requires c =
    let i : Input = input_of c.args.input.now in
    let new : List NewSection = c.args.new.now in
    let some : 0 < length new = grind (arith, nat_tests) in
    let f : Fit i (entries new) = fits i new c.requires.file_header c.requires.named c.requires.in_table some c.requires.size in
    let e = names_end_is i (entries new) c.next_multiple-names_at.result c.size_of_names.result c.next_multiple-names_at.ensures c.size_of_names.ensures in
    omega (arith, f.total)

pub next_multiple-headers_at-requires : goal.next_multiple-headers_at-requires
next_multiple-headers_at-requires c =
    let i : Input = input_of c.args.input.now in
    let new : List NewSection = c.args.new.now in
    let some : 0 < length new = grind (arith, nat_tests) in
    let f : Fit i (entries new) = fits i new c.requires.file_header c.requires.named c.requires.in_table some c.requires.size in
    let e = names_end_is i (entries new) c.next_multiple-names_at.result c.size_of_names.result c.next_multiple-names_at.ensures c.size_of_names.ensures in
    omega (arith, f.total, c.end_of_bodies.ensures)

pub overflow_add-headers_at : goal.overflow_add-headers_at
overflow_add-headers_at c =
    let i : Input = input_of c.args.input.now in
    let new : List NewSection = c.args.new.now in
    let some : 0 < length new = grind (arith, nat_tests) in
    let f : Fit i (entries new) = fits i new c.requires.file_header c.requires.named c.requires.in_table some c.requires.size in
    let e = names_end_is i (entries new) c.next_multiple-names_at.result c.size_of_names.result c.next_multiple-names_at.ensures c.size_of_names.ensures in
    let l : length (entries new) ≡ length new = length-map new entry_of in
    omega (arith, f.total, c.end_of_bodies.ensures, c.next_multiple-headers_at.ensures)

pub push_bodies-requires : goal.push_bodies-requires
push_bodies-requires c =
    let i : Input = input_of c.args.input.now in
    let new : List NewEntry = entries c.args.new.now in
    let l : length new ≡ length c.args.new.now = length-map c.args.new.now entry_of in
    let some : 0 < length new = grind (arith, nat_tests) in
    let ok : IsInput i = record { file_header = c.requires.file_header; named = c.requires.named; in_table = c.requires.in_table } in
    let f : Fit i new = fit i new ok some c.requires.size in
    let e = names_end_is i new c.next_multiple-names_at.result c.size_of_names.result c.next_multiple-names_at.ensures c.size_of_names.ensures in
    let headers_at : c.next_multiple-headers_at.result ≡ headers_place i new = c.next_multiple-headers_at.ensures ∙ ap aligned (c.end_of_bodies.ensures ∙ e) in
    let count : length i.headers / 64 + length c.args.new.now ≡ count_of i new = ap (λ (n : ℕ). length i.headers / 64 + n) (sym l) in
    let o1 : c.push_input.new.out.items ≡ changed_input i new = c.in_ok-push_input.ensures ∙ rw (c.in_ok-out.ensures.items, headers_at, count) refl in
    let o4 : length c.push_names.new.out.items ≡ aligned (length i.bytes) + length (all_names i new) =
    names_built i new ok _ _ _ _ o1 c.in_ok-pad.ensures c.in_ok-push_bytes.ensures c.in_ok-push_names.ensures in
    let s : end_of (length c.push_names.new.out.items) (bodies new) ≡ end_of (length i.bytes) (pieces i new) = ap (λ (n : ℕ). end_of n (bodies new)) o4 in
    omega (arith, f.total)

pub push_new_headers-requires-clause-names : goal.push_new_headers-requires-clause-names
push_new_headers-requires-clause-names c =
    let i : Input = input_of c.args.input.now in
    let new : List NewSection = c.args.new.now in
    let some : 0 < length new = grind (arith, nat_tests) in
    let f : Fit i (entries new) = fits i new c.requires.file_header c.requires.named c.requires.in_table some c.requires.size in
    omega (arith, f.names, f.names_end, f.total)

pub push_new_headers-requires-clause-bodies : goal.push_new_headers-requires-clause-bodies
push_new_headers-requires-clause-bodies c =
    let i : Input = input_of c.args.input.now in
    let new : List NewSection = c.args.new.now in
    let some : 0 < length new = grind (arith, nat_tests) in
    let f : Fit i (entries new) = fits i new c.requires.file_header c.requires.named c.requires.in_table some c.requires.size in
    let e = names_end_is i (entries new) c.next_multiple-names_at.result c.size_of_names.result c.next_multiple-names_at.ensures c.size_of_names.ensures in
    omega (arith, f.total)

pub returns : goal.returns
returns c =
    let i : Input = input_of c.args.input.now in
    let new : List NewEntry = entries c.args.new.now in
    let l : length new ≡ length c.args.new.now = length-map c.args.new.now entry_of in
    let some : 0 < length new = grind (arith, nat_tests) in
    let names_at : c.next_multiple-names_at.result ≡ names_place i = c.next_multiple-names_at.ensures in
    let names_size : length i.names + c.size_of_names.result ≡ length (all_names i new) = omega (arith, length-append i.names (new_names new), c.size_of_names.ensures) in
    let e = names_end_is i new c.next_multiple-names_at.result c.size_of_names.result c.next_multiple-names_at.ensures c.size_of_names.ensures in
    let headers_at : c.next_multiple-headers_at.result ≡ headers_place i new = c.next_multiple-headers_at.ensures ∙ ap aligned (c.end_of_bodies.ensures ∙ e) in
    let count : length i.headers / 64 + length c.args.new.now ≡ count_of i new = ap (λ (n : ℕ). length i.headers / 64 + n) (sym l) in
    let o1 : c.push_input.new.out.items ≡ changed_input i new = c.in_ok-push_input.ensures ∙ rw (c.in_ok-out.ensures.items, headers_at, count) refl in
    let o7 : c.push_old_headers.new.out.items ≡ c.pad-2.new.out.items ++ changed_headers i new = c.in_ok-push_old_headers.ensures ∙ rw (names_at, names_size, count) refl in
    let o8 : c.push_new_headers.new.out.items ≡ c.push_old_headers.new.out.items ++ header_table (added_headers i new) = c.in_ok-push_new_headers.ensures ∙ rw (names_at, names_size) refl in
    built i new _ _ _ _ _ _ _ _ o1 c.in_ok-pad.ensures c.in_ok-push_bytes.ensures c.in_ok-push_names.ensures c.in_ok-push_bodies.ensures c.in_ok-pad-2.ensures o7 o8
    ∙ sym (appended-some i new some)
