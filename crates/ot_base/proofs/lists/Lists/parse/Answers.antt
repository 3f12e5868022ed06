use Rattle.std.proofs.Common.{◌≡◌, ◌+◌, ◌≤◌, [], ◌∷◌, None, length, take, drop, get_or, arith, refl, sym, ap, ◌∙◌, below_more, take_all}
use Rattle.std.proofs.lemmas.List.{get_or_default}
use Rattle.std.specs.Prelude.{option_map}
use Rattle.ot_base.specs.NamesFile.{line_fault, lines, lines_in}
use Rattle.ot_base.specs.NameLists.{with_line, with_lines}
use Rattle.ot_base.proofs.ListsLemmas.{line_is, lines_after, lines_before, no_line_left, with_lines_more, with_no_line}
use Rattle.ot_base.proofs.lists.Lists.parse.Goals as goal

pub loop-rest-init : goal.loop-rest-init
loop-rest-init c = record {
  lists = c.in_ok-lists.ensures ∙ sym with_no_line;
  no_fault = λ k h. absurd (omega arith);
  left = refl;
  few = omega arith;
}

pub loop-rest-preserved : goal.loop-rest-preserved
loop-rest-preserved c =
    let ls = lines c.args.bytes.now in
    let n = c.loop-rest.count in
    let line = c.split_line.result.0.now in
    let more = lines_in (option_map (λ rest. rest.now) c.split_line.result.1) in
    let left : drop n ls ≡ line ∷ more = c.loop-rest.invariant.left ∙ ap (λ rest. lines_in (option_map (λ rest. rest.now) rest)) c.in-Some.is ∙ c.split_line.ensures.line in
    let few : n + (length c.in-Some.text.now + 1) ≤ length c.args.bytes.now + 1 = rw c.in-Some.is at c.loop-rest.invariant.few in
    record {
      lists =
          c.in_ok-add-in-None.ensures
          ∙ ap (λ lists. with_line lists line) c.loop-rest.invariant.lists
          ∙ sym (with_lines_more (take n ls) line)
          ∙ ap with_lines (sym (lines_before ls n line more left));
      no_fault = below_more (λ k. line_fault (get_or ls k []) ≡ None) n c.loop-rest.invariant.no_fault (ap line_fault (line_is ls n line more left) ∙ sym c.in-None.ensures);
      left = lines_after ls n line more left;
      few = omega (arith, c.split_line.ensures.shorter);
    }

pub returns-clause-ok : goal.returns-clause-ok
returns-clause-ok c =
    let ls = lines c.args.bytes.now in
    let none : drop c.loop-rest.count ls ≡ [] = c.loop-rest.invariant.left ∙ ap (λ rest. lines_in (option_map (λ rest. rest.now) rest)) c.in_default.is in
    c.loop-rest.invariant.lists ∙ ap with_lines (take_all c.loop-rest.count ls (no_line_left ls c.loop-rest.count none))

pub returns-clause-grammar : goal.returns-clause-grammar
returns-clause-grammar c =
    let ls = lines c.args.bytes.now in
    let none : drop c.loop-rest.count ls ≡ [] = c.loop-rest.invariant.left ∙ ap (λ rest. lines_in (option_map (λ rest. rest.now) rest)) c.in_default.is in
    let end : length ls ≤ c.loop-rest.count = no_line_left ls c.loop-rest.count none in
    λ k d within. ap line_fault (get_or_default ls k d [] within) ∙ c.loop-rest.invariant.no_fault k (omega arith)
