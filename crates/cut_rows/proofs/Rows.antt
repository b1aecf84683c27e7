-- The tokens of the texts, computed by the scan, which is the cut.
use Rattle.std.proofs.Common.{◌≡◌, refl, subst, List, [], Result}
use lib.Utf8.{encode}
use Rattle.std.specs.Str.{chars, is_utf8}
use Rattle.std.specs.Str.Lossy.{utf8_valid_len}
use Rattle.cut_rows.specs.Rows.{HaveTheirTokens}
use Rattle.cxx_base.specs.Texts.{Text}
use Rattle.cxx_tokens.specs.Cutting.{IsLexed}
use Rattle.cxx_tokens.specs.Faults.{Fault}
use Rattle.cxx_tokens.specs.Lex.{Lexed, lex, token_at}
use Rattle.cxx_tokens.specs.Punctuators.{punctuator_at}
use Rattle.cxx_tokens.specs.Tables.{punctuators}
use Rattle.ucd_derived.specs.XidContinueRanges.{xid_continue_ranges}
use Rattle.ucd_derived.specs.XidStartRanges.{xid_start_ranges}
use Rattle.ucd_table.specs.Rows.{in_ranges}
use Rattle.unicode_ident.specs.Ident.{is_xid_start, is_xid_continue}

abbrev IsScanned : Type 0
IsScanned = (names : List Text) (bytes : Text) → IsLexed names bytes (lex names bytes)

row : IsScanned → (bytes : Text) (answer : Result Lexed Fault) → lex [] bytes ≡ answer → IsLexed [] bytes answer
row law bytes answer e = subst (IsLexed [] bytes) e (law [] bytes)

pub rows : IsScanned → HaveTheirTokens
unfolding is_utf8 chars encode utf8_valid_len lex token_at punctuator_at punctuators is_xid_start is_xid_continue in_ranges xid_start_ranges xid_continue_ranges
rows law =
    record {
      first_end = row law _ _ refl;
      shared_star = row law _ _ refl;
      line_comment = row law _ _ refl;
      two_colons = row law _ _ refl;
      three_colons = row law _ _ refl;
      longest = row law _ _ refl;
      letter_behind = row law _ _ refl;
      separated = row law _ _ refl;
      largest = row law _ _ refl;
      too_large = row law _ _ refl;
      one_mark = row law _ _ refl;
      two_marks = row law _ _ refl;
      skipped_behind_comment = row law _ _ refl;
      none_behind_token = row law _ _ refl;
      skipped_behind_end = row law _ _ refl;
      open_string = row law _ _ refl;
      bad_escape = row law _ _ refl;
      no_character = row law _ _ refl;
    }
