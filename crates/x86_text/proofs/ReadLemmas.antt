-- What is known while a body is read, and what follows at its end.
use Rattle.std.proofs.Common.{◌≡◌, ℕ, ◌+◌, ◌-◌, ◌<◌, ◌≤◌, ◌^◌, List, [], ◌∷◌, ◌++◌, length, map, drop, get_or, All, Ok, arith, refl, sym, ap, ◌∙◌, subst, append_assoc, append-nil, length-append, length-drop}
use Rattle.std.specs.Prelude.{filter}
use Rattle.std.specs.List.Sorted.{IsNonDecreasingBy}
use Rattle.std.proofs.lemmas.List.Elements.{All-nil, All-head, All-tail, All-push, filter-append}
use Rattle.std.proofs.lemmas.List.Sorted.{IsNonDecreasingBy-short, IsNonDecreasingBy-push}
use Rattle.std.proofs.lemmas.List.{drop-drop, drop_all, map-append}
use Rattle.operation_defs.specs.declared.insn.Insn.{Insn}
use Rattle.x86_decode.specs.Decoding.{StandsInFront, decoded}
use Rattle.x86_text.specs.declared.known.Found.{Found}
use Rattle.x86_text.specs.declared.placed.PlacedInsn.{PlacedInsn}
use Rattle.x86_text.specs.Added.{IsAdded, AddsCode}
use Rattle.x86_text.specs.Code.{Body, IsBoundary, start, behind, code_from, code_of, insns_of, may_use_table, LeadsTo}
use Rattle.x86_text.specs.Listed.{StandsIn, IsListing, IsKept}
use Rattle.x86_text.proofs.CodeLemmas.{code_from_more}
use Rattle.x86_text.proofs.KnownLemmas.{stands_decoded, decoded_stands, decoded_only, decoded_lengths}

-- these are the instructions of the body up to an offset
pub record IsReadTo (body : Body) (code : List PlacedInsn) (off : ℕ) : Type 0 where
  pub within : off ≤ length body.bytes
  pub boundary : off < length body.bytes → IsBoundary body off
  pub same : code ++ code_from body.map 0 off (drop off body.bytes) ≡ code_of body
  pub each : All (StandsIn body) code
  pub leads : LeadsTo 0 code off
  pub some : All (λ p. 0 < p.insn.len) code
  pub ascending : IsNonDecreasingBy (λ p. p.off) code
  pub below : All (λ p. p.off < off) code
  pub few : length code ≤ off

-- what is kept of them, and the list to which they are added
pub record IsKeptTo (body : Body) (offsets : List ℕ) (jumps : List PlacedInsn) (before insns : List Insn) (off : ℕ) : Type 0 where
  pub code : List PlacedInsn
  pub read : IsReadTo body code off
  pub all_offsets : offsets ≡ map (λ p. p.off) code
  pub all_jumps : jumps ≡ filter (λ p. may_use_table p.insn.op) code
  pub all_insns : insns ≡ before ++ map (λ p. p.insn) code

LeadsTo-push : (from : ℕ) (code : List PlacedInsn) (p : PlacedInsn) → LeadsTo from code p.off → LeadsTo from (code ++ p ∷ []) (p.off + p.insn.len)
LeadsTo-push from [] p at = (sym at, ap (λ o. o + p.insn.len) at)
LeadsTo-push from (q ∷ code) p leads = (leads.0, LeadsTo-push (from + q.insn.len) code p leads.1)

nothing_read : (body : Body) → [] ++ code_from body.map 0 0 (drop 0 body.bytes) ≡ code_of body
unfolding code_of
nothing_read body = refl

-- nothing is read yet
pub read_nothing : (body : Body) → IsReadTo body [] 0
read_nothing body = record {
  within = omega arith;
  boundary = λ some. start 0 refl some;
  same = nothing_read body;
  each = All-nil (StandsIn body);
  leads = refl;
  some = All-nil (λ p. 0 < p.insn.len);
  ascending = IsNonDecreasingBy-short (λ p. p.off) [] (omega arith);
  below = All-nil (λ p. p.off < 0);
  few = omega arith;
}

-- one more instruction is read
pub read_more : (body : Body) (code : List PlacedInsn) (off : ℕ) (insn : Insn) → IsReadTo body code off → off < length body.bytes → decoded body.map (drop off body.bytes) ≡ Ok insn → StandsInFront body.map (drop off body.bytes) insn → ((other : Insn) → StandsInFront body.map (drop off body.bytes) other → other ≡ insn) → 0 < insn.len → insn.len ≤ length (drop off body.bytes) → IsReadTo body (code ++ record { off = off; insn = insn } ∷ []) (off + insn.len)
read_more body code off insn read inside here stands only long fits =
    let p : PlacedInsn = record { off = off; insn = insn } in
    let left : 0 < length (drop off body.bytes) = simp length-drop (omega arith) in
    let room : off + insn.len ≤ length body.bytes = omega (arith, simp length-drop at fits) in
    let rest : drop insn.len (drop off body.bytes) ≡ drop (off + insn.len) body.bytes = drop-drop insn.len off body.bytes in
    record {
      within = room;
      boundary = λ inside'. behind off (off + insn.len) insn (read.boundary inside) stands refl inside';
      same =
          append_assoc code (p ∷ []) (code_from body.map 0 (off + insn.len) (drop (off + insn.len) body.bytes))
          ∙ ap (λ bytes. code ++ p ∷ code_from body.map 0 (off + insn.len) bytes) (sym rest)
          ∙ ap (λ ps. code ++ ps) (sym (code_from_more body.map off (drop off body.bytes) insn left here long))
          ∙ read.same;
      each = All-push (StandsIn body) code p read.each (record { boundary = read.boundary inside; stands = stands; only = only; within = room });
      leads = LeadsTo-push 0 code p read.leads;
      some = All-push (λ q. 0 < q.insn.len) code p read.some long;
      ascending = IsNonDecreasingBy-push (λ q. q.off) code p read.ascending (λ d some. let low : (get_or code (length code - 1) d).off < off = read.below (length code - 1) d (omega arith) in omega arith);
      below = All-push (λ q. q.off < off + insn.len) code p (λ k d h. let low : (get_or code k d).off < off = read.below k d h in omega arith) (omega arith);
      few = let n : length code ≤ off = read.few in omega (arith, length-append code (p ∷ []));
    }

-- all is read
pub read_all : (body : Body) (code : List PlacedInsn) (off : ℕ) → IsReadTo body code off → length body.bytes ≤ off → length body.bytes < 2 ^ 32 → IsListing body code
read_all body code off read end small =
    let n : length code ≤ off = read.few in
    let m : off ≤ length body.bytes = read.within in
    let whole : off ≡ length body.bytes = omega arith in
    record {
      same = sym (append-nil code) ∙ ap (λ bytes. code ++ code_from body.map 0 off bytes) (sym (drop_all off body.bytes end)) ∙ read.same;
      each = read.each;
      whole = subst (LeadsTo 0 code) whole read.leads;
      some = read.some;
      ascending = read.ascending;
      few = omega arith;
    }

pub kept_nothing : (body : Body) (offsets : List ℕ) (jumps : List PlacedInsn) (before : List Insn) → offsets ≡ [] → jumps ≡ [] → IsKeptTo body offsets jumps before before 0
kept_nothing body offsets jumps before no_offsets no_jumps = record {
  code = [];
  read = read_nothing body;
  all_offsets = no_offsets;
  all_jumps = no_jumps;
  all_insns = sym (append-nil before);
}

pub kept_more : (body : Body) (offsets more_offsets : List ℕ) (jumps more_jumps : List PlacedInsn) (before insns more_insns : List Insn) (off : ℕ) (insn : Insn) → IsKeptTo body offsets jumps before insns off → off < length body.bytes → decoded body.map (drop off body.bytes) ≡ Ok insn → StandsInFront body.map (drop off body.bytes) insn → ((other : Insn) → StandsInFront body.map (drop off body.bytes) other → other ≡ insn) → 0 < insn.len → insn.len ≤ length (drop off body.bytes)
    → more_offsets ≡ offsets ++ off ∷ [] → more_jumps ≡ jumps ++ filter (λ p. may_use_table p.insn.op) (record { off = off; insn = insn } ∷ []) → more_insns ≡ insns ++ insn ∷ []
    → IsKeptTo body more_offsets more_jumps before more_insns (off + insn.len)
kept_more body offsets more_offsets jumps more_jumps before insns more_insns off insn kept inside here stands only long fits its_offset its_jump its_insn =
    let p : PlacedInsn = record { off = off; insn = insn } in
    record {
      code = kept.code ++ p ∷ [];
      read = read_more body kept.code off insn kept.read inside here stands only long fits;
      all_offsets = its_offset ∙ ap (λ os. os ++ off ∷ []) kept.all_offsets ∙ sym (map-append (λ (q : PlacedInsn). q.off) kept.code (p ∷ []));
      all_jumps = its_jump ∙ ap (λ js. js ++ filter (λ (q : PlacedInsn). may_use_table q.insn.op) (p ∷ [])) kept.all_jumps ∙ sym (filter-append (λ (q : PlacedInsn). may_use_table q.insn.op) kept.code (p ∷ []));
      all_insns =
          its_insn
          ∙ ap (λ is. is ++ insn ∷ []) kept.all_insns
          ∙ append_assoc before (map (λ (q : PlacedInsn). q.insn) kept.code) (insn ∷ [])
          ∙ ap (λ is. before ++ is) (sym (map-append (λ (q : PlacedInsn). q.insn) kept.code (p ∷ [])));
    }

-- at the end
pub kept_all : (body : Body) (offsets : List ℕ) (jumps : List PlacedInsn) (before insns : List Insn) (off : ℕ) → IsKeptTo body offsets jumps before insns off → length body.bytes ≤ off → length body.bytes < 2 ^ 32 → IsKept body offsets jumps × (insns ≡ before ++ insns_of body)
kept_all body offsets jumps before insns off kept end small =
    let listing : IsListing body kept.code = read_all body kept.code off kept.read end small in (
      record {
        listing = subst (IsListing body) listing.same listing;
        all_offsets = kept.all_offsets ∙ ap (map (λ (p : PlacedInsn). p.off)) listing.same;
        all_jumps = kept.all_jumps ∙ ap (filter (λ (p : PlacedInsn). may_use_table p.insn.op)) listing.same;
      },
      kept.all_insns ∙ ap (λ (ps : List PlacedInsn). before ++ map (λ (p : PlacedInsn). p.insn) ps) listing.same,
    )

-- ---- what is added

-- nothing
pub adds_nothing : (body : Body) (off : ℕ) (offsets : List ℕ) (jumps : List PlacedInsn) (insns : List Insn) → AddsCode body off off offsets offsets jumps jumps insns insns
adds_nothing body off offsets jumps insns = record {
  code = [];
  leads = refl;
  each = All-nil (StandsIn body);
  offsets_added = sym (append-nil offsets);
  jumps_added = sym (append-nil jumps);
  insns_added = sym (append-nil insns);
}

-- one more
pub adds_more : (body : Body) (from : ℕ) (offsets some_offsets more_offsets : List ℕ) (jumps some_jumps more_jumps : List PlacedInsn) (insns some_insns more_insns : List Insn) (p : PlacedInsn)
    → AddsCode body from p.off offsets some_offsets jumps some_jumps insns some_insns → StandsIn body p
    → more_offsets ≡ some_offsets ++ p.off ∷ [] → more_jumps ≡ some_jumps ++ filter (λ (q : PlacedInsn). may_use_table q.insn.op) (p ∷ []) → more_insns ≡ some_insns ++ p.insn ∷ []
    → AddsCode body from (p.off + p.insn.len) offsets more_offsets jumps more_jumps insns more_insns
adds_more body from offsets some_offsets more_offsets jumps some_jumps more_jumps insns some_insns more_insns p adds stands its_offset its_jump its_insn =
    let off_of : PlacedInsn → ℕ = λ q. q.off in
    let insn_of : PlacedInsn → Insn = λ q. q.insn in
    let jumps_of : List PlacedInsn → List PlacedInsn = filter (λ q. may_use_table q.insn.op) in
    record {
      code = adds.code ++ p ∷ [];
      leads = LeadsTo-push from adds.code p adds.leads;
      each = All-push (StandsIn body) adds.code p adds.each stands;
      offsets_added =
          its_offset
          ∙ ap (λ os. os ++ p.off ∷ []) adds.offsets_added
          ∙ append_assoc offsets (map off_of adds.code) (p.off ∷ [])
          ∙ ap (λ os. offsets ++ os) (sym (map-append off_of adds.code (p ∷ [])));
      jumps_added =
          its_jump
          ∙ ap (λ js. js ++ jumps_of (p ∷ [])) adds.jumps_added
          ∙ append_assoc jumps (jumps_of adds.code) (jumps_of (p ∷ []))
          ∙ ap (λ js. jumps ++ js) (sym (filter-append (λ (q : PlacedInsn). may_use_table q.insn.op) adds.code (p ∷ [])));
      insns_added =
          its_insn
          ∙ ap (λ is. is ++ p.insn ∷ []) adds.insns_added
          ∙ append_assoc insns (map insn_of adds.code) (p.insn ∷ [])
          ∙ ap (λ is. insns ++ is) (sym (map-append insn_of adds.code (p ∷ [])));
    }

module _ (body : Body) (bytes : (k : ℕ) → get_or body.bytes k 0 < 256) where
  -- what is decoded at a boundary stands there alone
  pub decoded_stands_in : (off : ℕ) (insn : Insn) → IsBoundary body off → off < length body.bytes → decoded body.map (drop off body.bytes) ≡ Ok insn → StandsIn body (record { off = off; insn = insn })
  decoded_stands_in off insn boundary inside here =
      let lengths = decoded_lengths body.bytes off bytes body.map insn here in
      record {
        boundary = boundary;
        stands = decoded_stands body.bytes off bytes body.map insn here;
        only = decoded_only body.bytes off bytes body.map insn here;
        within = let fits : insn.len ≤ length (drop off body.bytes) = lengths.2 in omega (arith, simp length-drop at fits);
      }

  -- so does what was known
  pub known_stands_in : (off : ℕ) (insns more_insns : List Insn) (found : Found) (is : IsAdded body.map (drop off body.bytes) insns more_insns found) → IsBoundary body off → off < length body.bytes → StandsIn body (record { off = off; insn = is.insn })
  known_stands_in off insns more_insns found is boundary inside = decoded_stands_in off is.insn boundary inside (stands_decoded body.bytes off bytes body.map is.insn is.stands)

  -- behind what is added, more is read
  pub kept_on : (code : List PlacedInsn) (from to : ℕ) (offsets more_offsets : List ℕ) (jumps more_jumps : List PlacedInsn) (before insns more_insns : List Insn)
      → IsKeptTo body offsets jumps before insns from → LeadsTo from code to → All (StandsIn body) code
      → more_offsets ≡ offsets ++ map (λ (p : PlacedInsn). p.off) code → more_jumps ≡ jumps ++ filter (λ (p : PlacedInsn). may_use_table p.insn.op) code → more_insns ≡ insns ++ map (λ (p : PlacedInsn). p.insn) code
      → IsKeptTo body more_offsets more_jumps before more_insns to
  kept_on [] from to offsets more_offsets jumps more_jumps before insns more_insns kept leads each its_offsets its_jumps its_insns =
      subst (λ (off : ℕ). IsKeptTo body more_offsets more_jumps before more_insns off) leads
      (record {
        code = kept.code;
        read = kept.read;
        all_offsets = its_offsets ∙ append-nil offsets ∙ kept.all_offsets;
        all_jumps = its_jumps ∙ append-nil jumps ∙ kept.all_jumps;
        all_insns = its_insns ∙ append-nil insns ∙ kept.all_insns;
      })
  kept_on (p ∷ code) from to offsets more_offsets jumps more_jumps before insns more_insns kept leads each its_offsets its_jumps its_insns =
      let jumps_of : List PlacedInsn → List PlacedInsn = filter (λ q. may_use_table q.insn.op) in
      let its : StandsIn body p = All-head (StandsIn body) p code each in
      let here : decoded body.map (drop p.off body.bytes) ≡ Ok p.insn = stands_decoded body.bytes p.off bytes body.map p.insn its.stands in
      let lengths = decoded_lengths body.bytes p.off bytes body.map p.insn here in
      let within : p.off + p.insn.len ≤ length body.bytes = its.within in
      let long : 0 < p.insn.len = lengths.0 in
      let inside : p.off < length body.bytes = omega arith in
      let now : IsKeptTo body offsets jumps before insns p.off = subst (λ (off : ℕ). IsKeptTo body offsets jumps before insns off) (sym leads.0) kept in
      let more : IsKeptTo body (offsets ++ p.off ∷ []) (jumps ++ jumps_of (p ∷ [])) before (insns ++ p.insn ∷ []) (p.off + p.insn.len) =
      kept_more body offsets (offsets ++ p.off ∷ []) jumps (jumps ++ jumps_of (p ∷ [])) before insns (insns ++ p.insn ∷ []) p.off p.insn now inside here its.stands its.only long lengths.2 refl refl refl in
      kept_on code (p.off + p.insn.len) to (offsets ++ p.off ∷ []) more_offsets (jumps ++ jumps_of (p ∷ [])) more_jumps before (insns ++ p.insn ∷ []) more_insns more
      (subst (λ (off : ℕ). LeadsTo (off + p.insn.len) code to) (sym leads.0) leads.1)
      (All-tail (StandsIn body) p code each)
      (its_offsets ∙ sym (append_assoc offsets (p.off ∷ []) (map (λ (q : PlacedInsn). q.off) code)))
      (its_jumps ∙ ap (λ js. jumps ++ js) (filter-append (λ (q : PlacedInsn). may_use_table q.insn.op) (p ∷ []) code) ∙ sym (append_assoc jumps (jumps_of (p ∷ [])) (jumps_of code)))
      (its_insns ∙ sym (append_assoc insns (p.insn ∷ []) (map (λ (q : PlacedInsn). q.insn) code)))

  pub kept_with : (from to : ℕ) (offsets more_offsets : List ℕ) (jumps more_jumps : List PlacedInsn) (before insns more_insns : List Insn) → IsKeptTo body offsets jumps before insns from → AddsCode body from to offsets more_offsets jumps more_jumps insns more_insns → IsKeptTo body more_offsets more_jumps before more_insns to
  kept_with from to offsets more_offsets jumps more_jumps before insns more_insns kept adds = kept_on adds.code from to offsets more_offsets jumps more_jumps before insns more_insns kept adds.leads adds.each adds.offsets_added adds.jumps_added adds.insns_added
