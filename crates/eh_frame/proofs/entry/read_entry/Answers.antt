use Rattle.std.proofs.Common.{◌≡◌, ℕ, ◌+◌, ◌-◌, ◌%◌, ◌<◌, ◌≤◌, ◌^◌, List, length, take, drop, sym, ◌∙◌, ap, subst, arith}
use Rattle.std.proofs.lemmas.List.{take_rest}
use Rattle.byteorder.specs.Endian.{little_number}
use Rattle.eh_frame.specs.Records.{IsEntry}
use Rattle.eh_frame.proofs.EntryLemmas.{entry_bytes_length}
use Rattle.eh_frame.proofs.EntryReads.{entry_found, entry_reads}
use Rattle.eh_frame.proofs.entry.read_entry.Goals as goal
use Rattle.eh_frame.proofs.entry.read_entry.Goals.{then-length-lt13-via-then-length-lt13, then-length-lt13-via-else-length-lt13+then-length-bytes, then-length-lt13-via-else-length-lt13+else-length-bytes+then-length-ne4}
use Rattle.eh_frame.proofs.entry.read_entry.Goals.{then-back-at-via-then-back-at, then-back-at-via-else-back-at+then-address-ne0, then-back-at-via-else-back-at+else-address-ne0+then-bytes-ne0}

pub returns-then-bytes-lt17-clause-none : goal.returns-then-bytes-lt17-clause-none
returns-then-bytes-lt17-clause-none c = λ size spelled behind is.
    let long = entry_bytes_length c.args.at c.args.bytes.now size spelled behind is in
    let short = c.if-bytes-lt17.true in
    absurd (omega arith)

pub returns-then-length-lt13-clause-none : goal.returns-then-length-lt13-clause-none
returns-then-length-lt13-clause-none c = λ size spelled behind is.
    let fits = c.requires in
    let some = c.if-bytes-lt17.false in
    let has = entry_reads c.args.at size c.args.bytes.now spelled behind (omega arith) is in
    let same : c.read_u32-length.result ≡ 13 + length spelled = c.read_u32-length.ensures ∙ has.len in
    let most = has.most in
    elim c.then-length-lt13.branch [
      | then-length-lt13-via-then-length-lt13 w ↦ (let low = w.if-length-lt13.true in absurd (omega arith))
      | then-length-lt13-via-else-length-lt13+then-length-bytes w ↦ (let high = w.if-length-bytes.true in absurd (omega arith))
      | then-length-lt13-via-else-length-lt13+else-length-bytes+then-length-ne4 w ↦ absurd (w.if-length-ne4.true (ap (λ (n : ℕ). n % 8) same ∙ has.aligned))
    ]

pub returns-then-back-at-clause-none : goal.returns-then-back-at-clause-none
returns-then-back-at-clause-none c = λ size spelled behind is.
    let fits = c.requires in
    let some = c.if-bytes-lt17.false in
    let has = entry_reads c.args.at size c.args.bytes.now spelled behind (omega arith) is in
    let back : c.read_u32-back.result ≡ c.args.at + 4 = c.read_u32-back.ensures ∙ ap (little_number 4) (take_rest c.args.bytes.now 4) ∙ has.back in
    let address : c.read_u32-address.result ≡ 0 = c.read_u32-address.ensures ∙ ap (little_number 4) (take_rest c.args.bytes.now 8) ∙ has.address in
    elim c.then-back-at.branch [
      | then-back-at-via-then-back-at w ↦ absurd (w.if-back-at.true back)
      | then-back-at-via-else-back-at+then-address-ne0 w ↦ absurd (w.if-address-ne0.true address)
      | then-back-at-via-else-back-at+else-address-ne0+then-bytes-ne0 w ↦ absurd (w.if-bytes-ne0.true has.augmentation)
    ]

pub returns-clause-some : goal.returns-clause-some
returns-clause-some c =
    let at : ℕ = c.args.at in
    let bytes : List ℕ = c.args.bytes.now in
    let n : ℕ = c.read_u32-length.result in
    let all = c.requires in
    let some = c.if-bytes-lt17.false in
    let least = c.if-length-lt13.false in
    let inside = c.if-length-bytes.false in
    let number : c.read_u32.result ≡ little_number 4 (drop 12 c.args.bytes.now) = c.read_u32.ensures ∙ ap (little_number 4) (take_rest c.args.bytes.now 12) in
    let cut : 4 + c.read_u32-length.result - 17 ≡ c.read_u32-length.result - 13 = omega arith in
    let short = c.read_u32.type_inv in
    subst (λ (size : ℕ). IsEntry c.args.at c.args.bytes.now size (take (4 + c.read_u32-length.result - 17) (drop 17 c.args.bytes.now)) (drop (17 + length (take (4 + c.read_u32-length.result - 17) (drop 17 c.args.bytes.now))) c.args.bytes.now)) (sym number)
    (entry_found at n bytes (take (4 + c.read_u32-length.result - 17) (drop 17 c.args.bytes.now)) (λ k. (c.type_inv.bytes k).fits) (omega arith)
    (record {
      len = sym c.read_u32-length.ensures;
      least = least;
      most = omega arith;
      aligned = c.if-length-ne4.false;
      back = sym (c.read_u32-back.ensures ∙ ap (little_number 4) (take_rest c.args.bytes.now 4)) ∙ c.if-back-at.false;
      address = sym (c.read_u32-address.ensures ∙ ap (little_number 4) (take_rest c.args.bytes.now 8)) ∙ c.if-address-ne0.false;
      augmentation = c.if-bytes-ne0.false;
    })
    (ap (λ (k : ℕ). take k (drop 17 c.args.bytes.now)) cut)
    (subst (λ (k : ℕ). k < 2 ^ 32) number short))
