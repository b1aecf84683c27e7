-- The table of the bytes with which an identifier goes on.
use Rattle.std.proofs.Common.{◌≡◌, ℕ, ◌<◌, Bool, true, false, not, ◌&&◌, ◌||◌, eqb, ltb, get_or, refl, sym, ◌∙◌, true≢false}
use Rattle.std.proofs.lemmas.Bool.{ltb-true}
use Rattle.std.specs.Char.{is_ascii_alphanumeric}
use Rattle.unicode_ident.proofs.IdentLemmas.{is_xid_continue-ascii}
use Rattle.cxx_tokens.specs.Characters.{continues_identifier}
use Rattle.cxx_tokens.specs.Cuts.{is_ascii_in}
use Rattle.cxx_tokens.specs.declared.run.Class.TheVariants.{Continuing}
use Rattle.cxx_tokens.specs.declared.run.TheConstants.{CONTINUES}
use Rattle.cxx_tokens.proofs.Words.{below_passes}

abbrev agree : Bool → Bool → Bool
agree true b = b
agree false b = not b

agree_is : (a b : Bool) → agree a b ≡ true → a ≡ b
agree_is true b h = sym h
agree_is false true h = absurd (true≢false (sym h))
agree_is false false h = refl

-- beyond ASCII none is
beyond : (a b : Bool) → a ≡ false → (a || not b) ≡ true → b ≡ false
beyond false false e h = refl
beyond false true e h = absurd (true≢false (sym h))
beyond true b e h = absurd (true≢false e)

abbrev in_ascii : ℕ → Bool
in_ascii c = agree (get_or CONTINUES c false) (is_ascii_alphanumeric c || eqb c 95)

pub table_says : (c : ℕ) → c < 256 → get_or CONTINUES c false ≡ is_ascii_in Continuing c
table_says c h = by (ltb c 128) refl
  where
    by : (b : Bool) → ltb c 128 ≡ b → get_or CONTINUES c false ≡ (b && continues_identifier c)
    by true e =
        let small : c < 128 = ltb-true c 128 e in
        agree_is (get_or CONTINUES c false) (is_ascii_alphanumeric c || eqb c 95) (below_passes 128 in_ascii refl c small) ∙ sym (is_xid_continue-ascii c small)
    by false e = beyond (ltb c 128) (get_or CONTINUES c false) e (below_passes 256 (λ c. ltb c 128 || not (get_or CONTINUES c false)) refl c h)
