-- All that the later proofs take of the bytes of the object with the new sections.
use Rattle.std.proofs.Common.{◌≡◌, ◌≢◌, inr, ℕ, ◌+◌, ◌*◌, ◌^◌, ◌<◌, ◌≤◌, List, [], ◌∷◌, ◌++◌, length, take, drop, get_or, refl, sym, ap, subst, ◌∙◌, arith, length-append}
use Rattle.std.specs.Prelude.{All}
use Rattle.std.proofs.lemmas.Bool.Decides.{nat_tests}
use Rattle.std.proofs.lemmas.List.{append_assoc, drop_more, map-append, take_all, take-append-drop, take_more, take-take}
use Rattle.std.proofs.lemmas.List.Concat.{flat_map-append}
use Rattle.elf_objects.specs.Number.{half}
use Rattle.elf_objects.specs.Header.{header_at}
use Rattle.elf_objects.specs.File.{headers_at, name_table, section_count, section_header}
use Rattle.elf_objects.specs.Table.{body_of, name_header}
use Rattle.elf_objects.specs.declared.header.SectionHeader.{SectionHeader}
use Rattle.elf_write.specs.Added.{HasFields}
use Rattle.elf_write.specs.Layout.{NewEntry, Input, added_headers, aligned, all_headers, all_names, bodies, changed_input, end_of, extended, header_for, headers_place, laid_out, long_count, names_place, new_names, pieces}
use Rattle.elf_write.proofs.Parts.{part, part-piece}
use Rattle.elf_write.proofs.Numbers.{half-same}
use Rattle.elf_write.proofs.Sizes.{end_of-append, le-end_of}
use Rattle.elf_write.proofs.Build.{length-changed_input}
use Rattle.elf_write.proofs.Headers.{HasRoom, get_or-new_headers}
use Rattle.elf_write.proofs.Output.{Base, Outside, ends, headers_at-output, input_at, input_ok, part-input, places, shnum-output}
use Rattle.elf_write.proofs.Table.{first_header, names_header, new_header, old_header}

-- a section, for where there is none
abbrev pub no_entry : NewEntry
no_entry = record { name = []; kind = 0; flags = 0; link = 0; info = 0; align = 0; entsize = 0; body = [] }

-- where the body of the new section with a number stands, and where its name does in the name table
abbrev pub place_of : Input → List NewEntry → ℕ → ℕ
place_of i new k = aligned (end_of (names_place i + length (all_names i new)) (bodies (take k new)))

abbrev pub name_of : Input → List NewEntry → ℕ → ℕ
name_of i new k = length i.names + length (new_names (take k new))

-- q is the object b with the new sections: its headers stand at hp, its name table nm at np, and the new section k at
-- `place k` with its name at `name k`
pub record Output (b : List ℕ) (new : List NewEntry) (q : List ℕ) (hp np : ℕ) (nm : List ℕ) (place name : ℕ → ℕ) : Type 0 where
  pub headers : headers_at q ≡ hp
  pub count : section_count q ≡ section_count b + length new
  pub table : name_table q ≡ name_table b
  pub first : section_header q 0 ≡ record (section_header b 0) { size = long_count (section_count b + length new) }
  pub names : section_header q (name_table b) ≡ record (section_header b (name_table b)) { offset = np; size = length nm }
  pub old : (k : ℕ) → k < section_count b → k ≢ 0 → k ≢ name_table b → section_header q k ≡ section_header b k
  pub added : (k : ℕ) (e : NewEntry) → k < length new → section_header q (section_count b + k) ≡ header_for (name k) (place k) (get_or new k e)
  pub kept : (a w : ℕ) → 64 ≤ a → a + w ≤ length b → part a w q ≡ part a w b
  pub front : (a w : ℕ) → a + w ≤ length b → Outside a w 40 8 → Outside a w 60 2 → part a w q ≡ part a w b
  pub names_part : part np (length nm) q ≡ nm
  pub body_part : (k : ℕ) (e : NewEntry) → k < length new → part (place k) (length (get_or new k e).body) q ≡ (get_or new k e).body
  pub behind : length b ≤ np
  pub names_inside : np + length nm ≤ hp
  pub after : (k : ℕ) → np + length nm ≤ place k
  pub apart : (j k : ℕ) (e : NewEntry) → j < k → k < length new → place j + length (get_or new j e).body ≤ place k
  pub inside : (k : ℕ) (e : NewEntry) → k < length new → place k + length (get_or new k e).body ≤ hp
  pub end : length q ≡ hp + 64 * (section_count b + length new)
  pub short : length q < 2 ^ 32
  pub names_is : nm ≡ body_of b (name_header b) ++ new_names new
  pub name_is : (k : ℕ) → name k ≡ length (body_of b (name_header b)) + length (new_names (take k new))

-- the list, cut at one of its elements
pub split_at : {X : Type 0} (xs : List X) (k : ℕ) (d : X) → k < length xs → xs ≡ take k xs ++ get_or xs k d ∷ drop (k + 1) xs
split_at xs k d h = sym (take-append-drop k xs) ∙ ap (λ (ys : List _). take k xs ++ ys) (drop_more xs k d h)

-- the end of the pieces up to a section is at or behind that of those up to an earlier one
end_of-take : (n : ℕ) (new : List NewEntry) (j k : ℕ) → j ≤ k → end_of n (bodies (take j new)) ≤ end_of n (bodies (take k new))
end_of-take n new j k h =
    let e : take k new ≡ take j new ++ drop j (take k new) = sym (take-append-drop j (take k new)) ∙ ap (λ (ys : List NewEntry). ys ++ drop j (take k new)) (take-take j k new h) in
    let m : bodies (take k new) ≡ bodies (take j new) ++ bodies (drop j (take k new)) = ap bodies e ∙ map-append (λ (x : NewEntry). x.body) (take j new) (drop j (take k new)) in
    let s : end_of n (bodies (take k new)) ≡ end_of (end_of n (bodies (take j new))) (bodies (drop j (take k new))) = ap (end_of n) m ∙ end_of-append n (bodies (take j new)) (bodies (drop j (take k new))) in
    let l = le-end_of (end_of n (bodies (take j new))) (bodies (drop j (take k new))) in
    omega arith

-- and the next piece begins behind its body
end_of-next : (n : ℕ) (new : List NewEntry) (j k : ℕ) (e : NewEntry) → j < k → j < length new
    → aligned (end_of n (bodies (take j new))) + length (get_or new j e).body ≤ end_of n (bodies (take k new))
end_of-next n new j k e h inside =
    let t : take (j + 1) new ≡ take j new ++ get_or new j e ∷ [] = take_more new j e inside in
    let m : bodies (take (j + 1) new) ≡ bodies (take j new) ++ (get_or new j e).body ∷ [] = ap bodies t ∙ map-append (λ (x : NewEntry). x.body) (take j new) (get_or new j e ∷ []) in
    let s : end_of n (bodies (take (j + 1) new)) ≡ aligned (end_of n (bodies (take j new))) + length (get_or new j e).body = ap (end_of n) m ∙ end_of-append n (bodies (take j new)) ((get_or new j e).body ∷ []) in
    let l = end_of-take n new (j + 1) k (omega arith) in
    omega arith

-- a new body stands at its place
body_placed : (b : List ℕ) (new : List NewEntry) (k : ℕ) (e : NewEntry) → Base b new → k < length new
    → part (place_of (input_at b) new k) (length (get_or new k e).body) (extended (input_at b) new) ≡ (get_or new k e).body
body_placed b new k e base h =
    let i : Input = input_at b in
    let one : NewEntry = get_or new k e in
    let before : List (List ℕ) = all_names i new ∷ bodies (take k new) in
    let rest : List (List ℕ) = bodies (drop (k + 1) new) ++ all_headers i new ∷ [] in
    let m : bodies new ≡ bodies (take k new) ++ one.body ∷ bodies (drop (k + 1) new) =
    ap bodies (split_at new k e h) ∙ map-append (λ (x : NewEntry). x.body) (take k new) (one ∷ drop (k + 1) new) in
    let ps : pieces i new ++ all_headers i new ∷ [] ≡ before ++ one.body ∷ rest =
    ap (λ (ys : List (List ℕ)). all_names i new ∷ (ys ++ all_headers i new ∷ [])) m
    ∙ ap (λ (ys : List (List ℕ)). all_names i new ∷ ys) (append_assoc (bodies (take k new)) (one.body ∷ bodies (drop (k + 1) new)) (all_headers i new ∷ [])) in
    let l : length (changed_input i new) ≡ length b = length-changed_input i new (input_ok b new base) in
    let at : place_of i new k ≡ aligned (end_of (length (changed_input i new)) before) =
    ap (λ (n : ℕ). aligned (end_of n before)) (sym l) in
    ap (λ (p : ℕ). part p (length one.body) (extended i new)) at
    ∙ ap (λ (ys : List (List ℕ)). part (aligned (end_of (length (changed_input i new)) before)) (length one.body) (laid_out (changed_input i new) ys)) ps
    ∙ part-piece (changed_input i new) before one.body rest

names_placed : (b : List ℕ) (new : List NewEntry) → Base b new
    → part (names_place (input_at b)) (length (all_names (input_at b) new)) (extended (input_at b) new) ≡ all_names (input_at b) new
names_placed b new base =
    let i : Input = input_at b in
    let l : length (changed_input i new) ≡ length b = length-changed_input i new (input_ok b new base) in
    ap (λ (n : ℕ). part (aligned n) (length (all_names i new)) (extended i new)) (sym l)
    ∙ part-piece (changed_input i new) [] (all_names i new) (bodies new ++ all_headers i new ∷ [])

-- the header of section 0 stands where the headers begin
first_at : (b : List ℕ) → section_header b 0 ≡ header_at b (headers_at b)
unfolding section_header
first_at b = ap (header_at b) (omega arith)

count_output : (b : List ℕ) (new : List NewEntry) → Base b new → section_count (extended (input_at b) new) ≡ section_count b + length new
unfolding section_count
count_output b new base =
    let q : List ℕ = extended (input_at b) new in
    let s = shnum-output b new base in
    let f : (header_at q (headers_at q)).size ≡ long_count (section_count b + length new) =
    ap (λ (h : SectionHeader). h.size) (sym (first_at q) ∙ first_header b new base) in
    let some = base.some in
    rw (s, f) (grind (arith, nat_tests))

table_output : (b : List ℕ) (new : List NewEntry) → Base b new → name_table (extended (input_at b) new) ≡ name_table b
unfolding name_table
table_output b new base =
    let q : List ℕ = extended (input_at b) new in
    let file = base.file in
    let s : half q 62 ≡ half b 62 = half-same 62 62 q b (part-input b new 62 2 base (omega arith) (inr (omega arith)) (inr (omega arith))) in
    let f : (header_at q (headers_at q)).link ≡ (header_at b (headers_at b)).link =
    ap (λ (h : SectionHeader). h.link) (sym (first_at q) ∙ first_header b new base) ∙ ap (λ (h : SectionHeader). h.link) (first_at b) in
    rw (s, f) refl

added_output : (b : List ℕ) (new : List NewEntry) → Base b new → All HasFields new → (k : ℕ) (e : NewEntry) → k < length new
    → section_header (extended (input_at b) new) (section_count b + k)
    ≡ header_for (name_of (input_at b) new k) (place_of (input_at b) new k) (get_or new k e)
added_output b new base fields k e h =
    let i : Input = input_at b in
    let one : NewEntry = get_or new k e in
    let hk : SectionHeader = header_for (name_of i new k) (place_of i new k) one in
    let f : HasFields one = fields k e h in
    let is : get_or (added_headers i new) k hk ≡ hk = get_or-new_headers (length i.names) (end_of (length b) (all_names i new ∷ [])) new k hk e h in
    let ps = places b new base in
    let next = end_of-next (names_place i + length (all_names i new)) new k (length new) e h h in
    let whole : take (length new) new ≡ new = take_all (length new) new (omega arith) in
    let last : end_of (names_place i + length (all_names i new)) (bodies (take (length new) new)) ≡ end_of (length b) (pieces i new) = ap (λ (ys : List NewEntry). end_of (names_place i + length (all_names i new)) (bodies ys)) whole in
    let cut : new_names new ≡ new_names (take k new) ++ new_names (drop k new) =
    ap new_names (sym (take-append-drop k new)) ∙ flat_map-append (λ (x : NewEntry). x.name ++ 0 ∷ []) (take k new) (drop k new) in
    let names : length (all_names i new) ≡ length i.names + (length (new_names (take k new)) + length (new_names (drop k new))) =
    length-append i.names (new_names new) ∙ ap (λ (n : ℕ). length i.names + n) (ap length cut ∙ length-append (new_names (take k new)) (new_names (drop k new))) in
    let room : HasRoom hk = record {
      name = omega (arith, ps.names, ps.headers);
      kind = f.kind;
      flags = f.flags;
      addr = omega arith;
      offset = omega (arith, ps.names, ps.headers);
      size = omega (arith, ps.names, ps.headers);
      link = f.link;
      info = f.info;
      align = f.align;
      entsize = f.entsize;
    } in
    new_header b new k hk base h (subst HasRoom (sym is) room) ∙ is

pub output : (b : List ℕ) (new : List NewEntry) → Base b new → All HasFields new
    → Output b new (extended (input_at b) new) (headers_place (input_at b) new) (names_place (input_at b)) (all_names (input_at b) new) (place_of (input_at b) new) (name_of (input_at b) new)
output b new base fields =
    let i : Input = input_at b in
    let ps = places b new base in
    let ne : ℕ = names_place i + length (all_names i new) in
    let whole : take (length new) new ≡ new = take_all (length new) new (omega arith) in
    let last : end_of ne (bodies (take (length new) new)) ≡ end_of (length b) (pieces i new) = ap (λ (ys : List NewEntry). end_of ne (bodies ys)) whole in
    record {
      headers = headers_at-output b new base;
      count = count_output b new base;
      table = table_output b new base;
      first = first_header b new base;
      names = names_header b new base;
      old = λ k h x y. old_header b new k base h x y;
      added = λ k e h. added_output b new base fields k e h;
      kept = λ a w low h. part-input b new a w base h (inr (omega arith)) (inr (omega arith));
      front = λ a w h x y. part-input b new a w base h x y;
      names_part = names_placed b new base;
      body_part = λ k e h. body_placed b new k e base h;
      behind = ps.behind;
      names_inside = ps.names;
      after = λ k. (let l = le-end_of ne (bodies (take k new)) in omega arith);
      apart = λ j k e h g. (let l = end_of-next ne new j k e h (omega arith) in omega arith);
      inside = λ k e h. (let l = end_of-next ne new k (length new) e h h in omega arith);
      end = ends b new base;
      short = base.short;
      names_is = refl;
      name_is = λ k. refl;
    }
