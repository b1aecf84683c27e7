use Rattle.std.proofs.Common.{◌≡◌, ◌≤◌, ◌∙◌, false, ap, sym, drop, nat_le, length, arith}
use Rattle.std.proofs.lemmas.List.Sums.{prefix_len-le-length}
use Rattle.std.specs.List.{prefix_len}
use Rattle.cxx_tokens.specs.Characters.{first_is}
use Rattle.cxx_tokens.specs.Cuts.{is_ascii_in}
use Rattle.cxx_tokens.proofs.AsciiFronts.{all_long, no_run, rest_is, run_is_ascii, run_split, run_stops}
use Rattle.cxx_tokens.proofs.run.short_run.Goals as goal

pub behind_ascii-rest-requires : goal.behind_ascii-rest-requires
behind_ascii-rest-requires c =
    let count : c.ascii_run-count.result ≡ prefix_len (is_ascii_in c.args.class) c.args.text.now =
    c.ascii_run-count.ensures ∙ ap (prefix_len (is_ascii_in c.args.class)) c.as_bytes.ensures.value in
    let most = run_is_ascii c.args.class c.args.text.now in
    omega (arith, most, count)

pub returns-clause-length : goal.returns-clause-length
returns-clause-length c =
    let count : c.ascii_run-count.result ≡ prefix_len (is_ascii_in c.args.class) c.args.text.now =
    c.ascii_run-count.ensures ∙ ap (prefix_len (is_ascii_in c.args.class)) c.as_bytes.ensures.value in
    let p = is_ascii_in c.args.class in
    let rest = c.behind_ascii-rest.result.now in
    let split = run_split c.args.class c.args.text.now rest c.ascii_run-count.result count c.behind_ascii-rest.ensures.characters in
    let stops : first_is p rest ≡ false = ap (first_is p) (c.behind_ascii-rest.ensures.bytes ∙ ap (λ n. drop n c.args.text.now) count) ∙ run_stops p c.args.text.now in
    let none = no_run c.args.class rest c.behind_ascii-rest.utf8 stops
    (ap (first_is (λ byte. nat_le 128 byte)) (sym c.as_bytes-2.ensures.value) ∙ sym c.begins_wide.ensures ∙ c.if-begins_wide.false) in
    omega (arith, split, none)

pub returns-clause-cut : goal.returns-clause-cut
returns-clause-cut c =
    let count : c.ascii_run-count.result ≡ prefix_len (is_ascii_in c.args.class) c.args.text.now =
    c.ascii_run-count.ensures ∙ ap (prefix_len (is_ascii_in c.args.class)) c.as_bytes.ensures.value in
    let text = c.args.text.now in
    let n = c.ascii_run-count.result in
    let within : n ≤ length text = (let most = prefix_len-le-length (is_ascii_in c.args.class) text in omega (arith, most, count)) in
    let all = all_long text c.behind_ascii-rest.result.now n within c.behind_ascii-rest.ensures.characters in
    record {
      rest = rest_is text c.behind_ascii-rest.result.now n within c.behind_ascii-rest.ensures.characters;
      within = omega (arith, all);
    }
