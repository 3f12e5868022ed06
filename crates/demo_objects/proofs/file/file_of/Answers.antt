use Rattle.std.proofs.Common.{◌≡◌, ℕ, ◌+◌, List, [], ◌∷◌, ◌++◌, ap, ◌∙◌, arith, length}
use Rattle.std.proofs.lemmas.List.{append_assoc, length-map}
use Rattle.elf_objects.specs.declared.header.SectionHeader.{SectionHeader}
use Rattle.elf_write.specs.Layout.{NewEntry, header_bytes, header_table}
use Rattle.elf_write.specs.New.{entries, entry_of, header_fields}
use Rattle.demo_objects.specs.Layout.{bodies_end, file_header, file_of, first_header, headers_from, headers_place, next_multiple, padded, with_bodies}
use Rattle.demo_objects.proofs.Sizes.{fits, length-file_header, length-with_bodies}
use Rattle.demo_objects.proofs.file.file_of.Goals as goal

head : (o0 o1 : List ℕ) (at count : ℕ) → o0 ≡ [] → o1 ≡ o0 ++ file_header at count → o1 ≡ file_header at count
head o0 o1 at count empty e = e ∙ ap (λ (xs : List ℕ). xs ++ file_header at count) empty

whole : (at count : ℕ) (es : List NewEntry) (o1 o2 o3 o4 o5 : List ℕ) (h : SectionHeader) → o1 ≡ file_header at count → o2 ≡ with_bodies o1 es → o3 ≡ padded 8 o2
    → o4 ≡ o3 ++ header_bytes h → h ≡ first_header count → o5 ≡ o4 ++ header_table (headers_from 1 64 es)
    → o5 ≡ padded 8 (with_bodies (file_header at count) es) ++ header_table (first_header count ∷ headers_from 1 64 es)
whole at count es o1 o2 o3 o4 o5 h e1 e2 e3 e4 eh e5 =
    e5
    ∙ ap (λ (xs : List ℕ). xs ++ header_table (headers_from 1 64 es)) (e4 ∙ ap (λ (g : SectionHeader). o3 ++ header_bytes g) eh ∙ ap (λ (xs : List ℕ). xs ++ header_bytes (first_header count)) (e3 ∙ ap (padded 8) (e2 ∙ ap (λ (xs : List ℕ). with_bodies xs es) e1)))
    ∙ append_assoc (padded 8 (with_bodies (file_header at count) es)) (header_bytes (first_header count)) (header_table (headers_from 1 64 es))

pub end_of_bodies-requires-clause-fits : goal.end_of_bodies-requires-clause-fits
end_of_bodies-requires-clause-fits c = (fits (entries c.args.sections.now) c.requires.aligned c.requires.fits).bodies

pub next_multiple-headers_at-requires-clause-fits : goal.next_multiple-headers_at-requires-clause-fits
next_multiple-headers_at-requires-clause-fits c =
    let f = (fits (entries c.args.sections.now) c.requires.aligned c.requires.fits).headers in
    rw (c.end_of_bodies.ensures) (omega arith)

pub overflow_add-headers_at : goal.overflow_add-headers_at
overflow_add-headers_at c =
    let f = (fits (entries c.args.sections.now) c.requires.aligned c.requires.fits).headers in
    let e : c.next_multiple-headers_at.result ≡ headers_place (entries c.args.sections.now) = c.next_multiple-headers_at.ensures ∙ ap (next_multiple 8) c.end_of_bodies.ensures in
    omega (arith, c.requires.few)

pub push_bodies-requires-clause-fits : goal.push_bodies-requires-clause-fits
push_bodies-requires-clause-fits c =
    let f = (fits (entries c.args.sections.now) c.requires.aligned c.requires.fits).bodies in
    let out = head c.in_ok-out.out.items c.push_file_header.new.out.items c.next_multiple-headers_at.result (length c.args.sections.now + 1) c.in_ok-out.ensures.items c.in_ok-push_file_header.ensures in
    let l : length c.push_file_header.new.out.items ≡ 64 = ap length out ∙ length-file_header c.next_multiple-headers_at.result (length c.args.sections.now + 1) in
    rw l f

pub pad-requires-clause-fits : goal.pad-requires-clause-fits
pad-requires-clause-fits c =
    let f = (fits (entries c.args.sections.now) c.requires.aligned c.requires.fits).headers in
    let out = head c.in_ok-out.out.items c.push_file_header.new.out.items c.next_multiple-headers_at.result (length c.args.sections.now + 1) c.in_ok-out.ensures.items c.in_ok-push_file_header.ensures in
    let l : length c.push_file_header.new.out.items ≡ 64 = ap length out ∙ length-file_header c.next_multiple-headers_at.result (length c.args.sections.now + 1) in
    let m : length c.push_bodies.new.out.items ≡ bodies_end 64 (entries c.args.sections.now) =
    ap length c.in_ok-push_bodies.ensures ∙ length-with_bodies c.push_file_header.new.out.items (entries c.args.sections.now) c.requires.aligned ∙ ap (λ (n : ℕ). bodies_end n (entries c.args.sections.now)) l in
    rw m (omega arith)

pub push_headers-requires-clause-fits : goal.push_headers-requires-clause-fits
push_headers-requires-clause-fits c = (fits (entries c.args.sections.now) c.requires.aligned c.requires.fits).bodies

pub returns : goal.returns
unfolding file_of
returns c =
    let es = entries c.args.sections.now in
    let count : length c.args.sections.now + 1 ≡ length es + 1 = omega (arith, length-map c.args.sections.now entry_of) in
    let at : c.next_multiple-headers_at.result ≡ headers_place es = c.next_multiple-headers_at.ensures ∙ ap (next_multiple 8) c.end_of_bodies.ensures in
    let out = head c.in_ok-out.out.items c.push_file_header.new.out.items c.next_multiple-headers_at.result (length c.args.sections.now + 1) c.in_ok-out.ensures.items c.in_ok-push_file_header.ensures in
    let first : c.push_file_header.new.out.items ≡ file_header (headers_place es) (length es + 1) = out ∙ ap (λ (n : ℕ). file_header n (length c.args.sections.now + 1)) at ∙ ap (file_header (headers_place es)) count in
    whole (headers_place es) (length es + 1) es c.push_file_header.new.out.items c.push_bodies.new.out.items c.pad.new.out.items c.push_header.new.out.items c.push_headers.new.out.items
    (header_fields c.first_header.result) first c.in_ok-push_bodies.ensures c.in_ok-pad.ensures
    c.in_ok-push_header.ensures (c.first_header.ensures ∙ ap first_header count) c.in_ok-push_headers.ensures
