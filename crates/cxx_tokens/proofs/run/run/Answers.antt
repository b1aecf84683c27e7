use Rattle.std.proofs.Common.{◌≡◌, ◌≤◌, ◌∙◌, ap, drop, refl, chars, length, arith}
use Rattle.std.proofs.lemmas.List.Sums.{prefix_len-le-length}
use Rattle.std.specs.List.{prefix_len}
use Rattle.cxx_tokens.specs.Characters.{first_is}
use Rattle.cxx_tokens.specs.Cuts.{class_test, is_ascii_in}
use Rattle.cxx_tokens.proofs.AsciiFronts.{all_long, rest_is, run_is_ascii, run_split, run_stops}
use Rattle.cxx_tokens.proofs.Cut.{characters_are_few, drop_both}
use Rattle.cxx_tokens.proofs.run.run.Goals as goal

pub behind_ascii-rest-requires : goal.behind_ascii-rest-requires
behind_ascii-rest-requires c =
    let count : c.ascii_run-count.result ≡ prefix_len (is_ascii_in c.args.class) c.args.text.now =
    c.ascii_run-count.ensures ∙ ap (prefix_len (is_ascii_in c.args.class)) c.as_bytes.ensures.value in
    let most = run_is_ascii c.args.class c.args.text.now in
    omega (arith, most, count)

pub overflow_add-result : goal.overflow_add-result
overflow_add-result c =
    let count : c.ascii_run-count.result ≡ prefix_len (is_ascii_in c.args.class) c.args.text.now =
    c.ascii_run-count.ensures ∙ ap (prefix_len (is_ascii_in c.args.class)) c.as_bytes.ensures.value in
    let text = c.args.text.now in
    let within : c.ascii_run-count.result ≤ length text = (let most = prefix_len-le-length (is_ascii_in c.args.class) text in omega (arith, most, count)) in
    let all = all_long text c.behind_ascii-rest.result.now c.ascii_run-count.result within c.behind_ascii-rest.ensures.characters in
    let few = characters_are_few text c.utf8.text in
    omega (arith, all, few, c.wide_run-more.ensures.cut.within)

pub returns-clause-length : goal.returns-clause-length
returns-clause-length c =
    let count : c.ascii_run-count.result ≡ prefix_len (is_ascii_in c.args.class) c.args.text.now =
    c.ascii_run-count.ensures ∙ ap (prefix_len (is_ascii_in c.args.class)) c.as_bytes.ensures.value in
    let p = class_test c.args.class in
    let rest = c.behind_ascii-rest.result.now in
    let split = run_split c.args.class c.args.text.now rest c.ascii_run-count.result count c.behind_ascii-rest.ensures.characters in
    omega (arith, split, c.wide_run-more.ensures.length)

pub returns-clause-cut : goal.returns-clause-cut
returns-clause-cut c =
    let count : c.ascii_run-count.result ≡ prefix_len (is_ascii_in c.args.class) c.args.text.now =
    c.ascii_run-count.ensures ∙ ap (prefix_len (is_ascii_in c.args.class)) c.as_bytes.ensures.value in
    let text = c.args.text.now in
    let n = c.ascii_run-count.result in
    let within : n ≤ length text = (let most = prefix_len-le-length (is_ascii_in c.args.class) text in omega (arith, most, count)) in
    let all = all_long text c.behind_ascii-rest.result.now n within c.behind_ascii-rest.ensures.characters in
    record {
      rest = c.wide_run-more.ensures.cut.rest
          ∙ drop_both n c.wide_run-more.result.length _ (chars text) (chars c.behind_ascii-rest.result.now) (rest_is text c.behind_ascii-rest.result.now n within c.behind_ascii-rest.ensures.characters) refl;
      within = omega (arith, all, c.wide_run-more.ensures.cut.within);
    }

pub wide_run-more-requires : goal.wide_run-more-requires
wide_run-more-requires c =
    let count : c.ascii_run-count.result ≡ prefix_len (is_ascii_in c.args.class) c.args.text.now =
    c.ascii_run-count.ensures ∙ ap (prefix_len (is_ascii_in c.args.class)) c.as_bytes.ensures.value in
    let p = is_ascii_in c.args.class in
    ap (first_is p) (c.behind_ascii-rest.ensures.bytes ∙ ap (λ n. drop n c.args.text.now) count) ∙ run_stops p c.args.text.now
