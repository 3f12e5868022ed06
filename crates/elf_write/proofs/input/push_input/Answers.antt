use Rattle.std.proofs.Common.{◌≡◌, ℕ, ◌+◌, ◌++◌, List, length, refl, ◌∙◌, ap, arith}
use Rattle.std.proofs.lemmas.Bool.Decides.{nat_tests}
use Rattle.elf_write.specs.Layout.{encoded, short_count}
use Rattle.elf_write.proofs.Lists.{length-encoded, pushed_two}
use Rattle.elf_write.proofs.input.push_input.Goals as goal
use Rattle.elf_write.proofs.input.push_input.Goals.{then-count-lt-MANY, else-count-lt-MANY}

pub returns : goal.returns
returns c =
    let short : c.if-count-lt-MANY.short ≡ short_count c.args.count = elim c.if-count-lt-MANY.branch [
      | then-count-lt-MANY w ↦ grind (arith, nat_tests)
      | else-count-lt-MANY w ↦ grind (arith, nat_tests)
    ] in
    let number : List ℕ = encoded 8 c.args.headers_at in
    let count : List ℕ = encoded 2 (short_count c.args.count) in
    let long_8 : 40 + length number ≡ 48 = omega (arith, length-encoded 8 c.args.headers_at) in
    let long_2 : 60 + length count ≡ 62 = omega (arith, length-encoded 2 (short_count c.args.count)) in
    let pushed : c.push_u16.new.out.items ≡ c.push_part-2.new.out.items ++ count =
    c.in_ok-push_u16.ensures ∙ ap (λ (n : ℕ). c.push_part-2.new.out.items ++ encoded 2 n) short in
    pushed_two 40 48 60 62 (length c.args.bytes.now) number count c.args.bytes.now _ _ _ _ _ _
    long_8 (omega arith) long_2 (omega arith) refl
    c.in_ok-push_part.ensures c.in_ok-push_u64.ensures c.in_ok-push_part-2.ensures pushed c.in_ok-push_part-3.ensures
