use Rattle.std.proofs.Common.{◌≡◌, ℕ, ◌+◌, ◌<◌, ◌≤◌, List, All, map, length, arith, sym, ap, ◌∙◌, subst}
use Rattle.std.proofs.lemmas.List.{length-map}
use Rattle.special_sections.specs.declared.entries.AltEntry.{AltEntry}
use Rattle.alternatives.specs.declared.original.Original.{Original}
use Rattle.alternatives.specs.declared.site.AlternativesSite.{AlternativesSite}
use Rattle.alternatives.specs.Sites.{AreSitesOf}
use Rattle.alternatives.specs.Sorted.{NoneMeet, GroupsOf}
use Rattle.alternatives.proofs.Overlaps.{some_len}
use Rattle.alternatives.proofs.Whole.{few_originals, fill_few, none_where_right, whole_sites}
use Rattle.alternatives.proofs.sites.build_sites.Goals as goal

pub group_sites-requires-clause-few : goal.group_sites-requires-clause-few
group_sites-requires-clause-few c =
    let os : List Original = c.in_ok-originals.originals.items in
    let few : length os ≤ length c.args.entries.now = few_originals c.args.entries.now os c.in_ok-originals.ensures.all in
    let same : length c.as_slice-2.result.now ≡ length os = ap (λ (xs : List Original). length xs) c.as_slice-2.ensures.value in
    omega (arith, c.requires.few)

pub group_sites-requires-clause-apart : goal.group_sites-requires-clause-apart
group_sites-requires-clause-apart c =
    let same = c.as_slice.ensures.value ∙ sym c.as_slice-2.ensures.value in
    subst NoneMeet same (none_where_right c.args.texts.now c.args.entries.now c.as_slice.result.now c.in_ok-overlap.overlap c.in_ok-check_entries.ensures.ok c.in_ok-overlap.ensures.found c.in_ok-overlap.ensures.apart)

pub group_sites-requires-clause-some : goal.group_sites-requires-clause-some
group_sites-requires-clause-some c =
    subst (λ os. All (λ (o : Original). 0 < o.len) os) (sym c.as_slice-2.ensures.value) (some_len c.args.entries.now c.in_ok-originals.originals.items c.in_ok-originals.ensures.all c.in_ok-originals.ensures.sorted)

pub invariant_of-result : goal.invariant_of-result
invariant_of-result c =
    let os : List Original = c.in_ok-originals.originals.items in
    let few : length os ≤ length c.args.entries.now = few_originals c.args.entries.now os c.in_ok-originals.ensures.all in
    let same : length c.as_slice-2.result.now ≡ length os = ap (λ (xs : List Original). length xs) c.as_slice-2.ensures.value in
    let count : 0 + length c.in_ok-sites.sites.items ≤ length c.as_slice-2.result.now = fill_few 0 (length c.as_slice-2.result.now) c.in_ok-sites.sites.items c.in_ok-sites.ensures.fill in
    let entries : List AltEntry = c.args.entries.now in
    let sites : List AlternativesSite = c.in_ok-sites.sites.items in
    let groups : GroupsOf os sites (length os) = subst (λ xs. GroupsOf xs sites (length xs)) c.as_slice-2.ensures.value c.in_ok-sites.ensures in
    let numbers : c.in_ok-entry_numbers.entry_numbers.items ≡ map (λ (o : Original). o.entry) os = c.in_ok-entry_numbers.ensures ∙ ap (map (λ (o : Original). o.entry)) c.as_slice-3.ensures.value in
    let as_many : length c.in_ok-entry_numbers.entry_numbers.items ≡ length os = ap (λ (ns : List ℕ). length ns) numbers ∙ length-map os (λ (o : Original). o.entry) in
    let are : AreSitesOf entries sites c.in_ok-entry_numbers.entry_numbers.items = subst (λ ns. AreSitesOf entries sites ns) (sym numbers) (whole_sites entries os c.in_ok-originals.ensures.all c.in_ok-originals.ensures.sorted sites groups) in
    (omega (arith, c.requires.few), (omega (arith, c.requires.few)), subst (λ es. AreSitesOf es sites c.in_ok-entry_numbers.entry_numbers.items) (sym c.in_ok-table.ensures.entries) are)

pub returns-clause-sites : goal.returns-clause-sites
returns-clause-sites c =
    let os : List Original = c.in_ok-originals.originals.items in
    let entries : List AltEntry = c.args.entries.now in
    let sites : List AlternativesSite = c.in_ok-sites.sites.items in
    let groups : GroupsOf os sites (length os) = subst (λ xs. GroupsOf xs sites (length xs)) c.as_slice-2.ensures.value c.in_ok-sites.ensures in
    let numbers : c.in_ok-entry_numbers.entry_numbers.items ≡ map (λ (o : Original). o.entry) os = c.in_ok-entry_numbers.ensures ∙ ap (map (λ (o : Original). o.entry)) c.as_slice-3.ensures.value in
    subst (λ ns. AreSitesOf entries sites ns) (sym numbers) (whole_sites entries os c.in_ok-originals.ensures.all c.in_ok-originals.ensures.sorted sites groups)

pub of_sites-requires : goal.of_sites-requires
of_sites-requires c =
    let os : List Original = c.in_ok-originals.originals.items in
    let few : length os ≤ length c.args.entries.now = few_originals c.args.entries.now os c.in_ok-originals.ensures.all in
    let same : length c.as_slice-2.result.now ≡ length os = ap (λ (xs : List Original). length xs) c.as_slice-2.ensures.value in
    let count : 0 + length c.in_ok-sites.sites.items ≤ length c.as_slice-2.result.now = fill_few 0 (length c.as_slice-2.result.now) c.in_ok-sites.sites.items c.in_ok-sites.ensures.fill in
    let sites : length c.as_slice-4.result.now ≡ length c.in_ok-sites.sites.items = ap (λ (xs : List AlternativesSite). length xs) c.as_slice-4.ensures.value in
    omega (arith, c.requires.few)
