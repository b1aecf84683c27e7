-- Arguments and braced lists stand where they were read.
use Rattle.std.proofs.Common.{ℕ, ◌<◌, ◌≤◌, List, [], ◌∷◌, length, Option, Some, None, refl, arith}
use Rattle.cxx_tree.specs.declared.expr.ArgTree.{ArgTree}
use Rattle.tree_stands.specs.Stands.{InOrder, IfAny, StandsArg, StandsArgs, StandsBraced, StandsDesignator}
use Rattle.cxx_tokens.specs.declared.token.Tokens.{Tokens}
use Rattle.cxx_tokens.specs.declared.mark.TheConstants.{LEFT_BRACE, RIGHT_BRACE, LEFT_PAREN, RIGHT_PAREN, COMMA, DOT, EQUAL}
use Rattle.cxx_reading.specs.Reading.{left, span}
use Rattle.cxx_grammar.specs.declared.clause.Clause.{Clause}
use Rattle.cxx_grammar.specs.declared.clause.Clause.TheVariants as clause-of
use Rattle.cxx_grammar.specs.declared.clause.Clauses.{Clauses}
use Rattle.cxx_grammar.specs.declared.clause.Clauses.TheVariants as clauses-of
use Rattle.cxx_grammar.specs.Lists as lists
use Rattle.cxx_grammar.specs.Lists.{with_clause, first_clause, clauses_or_none, clauses_on, braced_of}
use Rattle.cxx_grammar.specs.Rules.{Rules}
use Rattle.tree_stands.proofs.Holding.{Where, next, either, turned, In, wider, in_order, in_order_wider, Part, Group, TreeStands, GroupStands, ListStands, spanned, loosened, loosely, later, passes_present, stands_optional, stand_if_any, alone, stand_repeated}
use Rattle.tree_stands.proofs.Single.{takes_punctuator, identifier_stands}
use Rattle.tree_stands.proofs.Rows.{row_of_args, row_of_designators}
use Rattle.tree_stands.proofs.Deeper.{StandRules}

-- clauses of a braced list
module _ (tokens : Tokens) where
  abbrev pub StandsClause : ℕ → ℕ → Clause → Type 0
  StandsClause i j (clause-of.Plain x) = StandsArg tokens i j x
  StandsClause i j (clause-of.Designator x) = StandsDesignator tokens i j x

  abbrev pub StandsClauses : ℕ → ℕ → Clauses → Type 0
  StandsClauses i j (clauses-of.Plain xs) = InOrder (StandsArg tokens) i j xs
  StandsClauses i j (clauses-of.Designated xs) = InOrder (StandsDesignator tokens) i j xs
  StandsClauses i j clauses-of.Mixed = Unit {0}

  clauses_wider : (i j k l : ℕ) (found : Clauses) → i ≤ j → k ≤ l → StandsClauses j k found → StandsClauses i l found
  clauses_wider i j k l (clauses-of.Plain xs) before behind h = in_order_wider (StandsArg tokens) xs i j k l before behind h
  clauses_wider i j k l (clauses-of.Designated xs) before behind h = in_order_wider (StandsDesignator tokens) xs i j k l before behind h
  clauses_wider i j k l clauses-of.Mixed before behind h = tt

  with_clause_stands : (i j k : ℕ) (found : Clauses) (x : Clause) → StandsClauses i j found → In StandsClause j k x → StandsClauses i k (with_clause found x)
  with_clause_stands i j k (clauses-of.Plain xs) (clause-of.Plain x) h g = in_order (StandsArg tokens) xs x i j k h g
  with_clause_stands i j k (clauses-of.Plain xs) (clause-of.Designator x) h g = tt
  with_clause_stands i j k (clauses-of.Designated xs) (clause-of.Plain x) h g = tt
  with_clause_stands i j k (clauses-of.Designated xs) (clause-of.Designator x) h g = in_order (StandsDesignator tokens) xs x i j k h g
  with_clause_stands i j k clauses-of.Mixed x h g = tt

  first_clause_stands : (i k : ℕ) (x : Clause) → In StandsClause i k x → StandsClauses i k (first_clause x)
  first_clause_stands i k (clause-of.Plain x) h = h
  first_clause_stands i k (clause-of.Designator x) h = h

  clauses_or_none_stand : (i k : ℕ) (o : Option Clauses) → IfAny StandsClauses i k o → StandsClauses i k (clauses_or_none o)
  clauses_or_none_stand i k (Some found) h = clauses_wider i h.0 h.1 k found h.2 h.4 h.3
  clauses_or_none_stand i k None h = h

module _ (tokens : Tokens) (deeper : Rules) (h : StandRules tokens deeper) where
  pub arg_expr : TreeStands tokens (StandsArg tokens) (lists.arg_expr tokens deeper)
  unfolding lists.arg_expr
  arg_expr i = next _ _ _ _ (h.exprs i) (λ x a ha. record { holds = record { rises = ha.rises; within = ha.within; stands = ha.stands } })

  pub arg_braced : TreeStands tokens (StandsArg tokens) (lists.arg_braced tokens deeper)
  unfolding lists.arg_braced
  arg_braced i = next _ _ _ _ (h.braceds i) (λ x a ha. record { holds = record { rises = ha.rises; within = ha.within; stands = ha.stands } })

  pub arg : TreeStands tokens (StandsArg tokens) (lists.arg tokens deeper)
  unfolding lists.arg
  arg i = either _ _ _ (arg_expr i) (arg_braced i)

  pub next_arg : TreeStands tokens (In (StandsArg tokens)) (lists.next_arg tokens deeper)
  unfolding lists.next_arg
  next_arg i = next _ _ _ _ (takes_punctuator tokens COMMA i) (λ _ a ha. later tokens (StandsArg tokens) i a _ (omega arith) (arg a))

  pub more_args : (first : ℕ) (xs : List ArgTree) (i : ℕ) → Group tokens (InOrder (StandsArg tokens)) first xs i
      → Where (λ ys k. Group tokens (InOrder (StandsArg tokens)) first ys k) (lists.more_args tokens deeper xs i)
  unfolding lists.more_args
  more_args first xs i now = stand_repeated tokens (StandsArg tokens) (lists.next_arg tokens deeper) next_arg first (left tokens i) xs i now

  pub some_args : ListStands tokens (StandsArg tokens) (lists.some_args tokens deeper)
  unfolding lists.some_args
  some_args i = next _ _ _ _ (arg i) (λ x a ha. more_args i (x ∷ []) a (alone tokens (StandsArg tokens) i a x (loosened tokens (StandsArg tokens) i x a ha)))

  pub args_if_any : ListStands tokens (StandsArg tokens) (lists.args_if_any tokens deeper)
  unfolding lists.args_if_any
  args_if_any = stand_if_any tokens (StandsArg tokens) _ some_args

  pub args : TreeStands tokens (StandsArgs tokens) (lists.args tokens deeper)
  unfolding lists.args
  args i = spanned tokens _ i _ (
      next _ _ _ _ (takes_punctuator tokens LEFT_PAREN i) (λ _ a ha.
      next _ _ _ _ (args_if_any a) (λ xs b hb.
      next _ _ _ _ (takes_punctuator tokens RIGHT_PAREN b) (λ _ c hc.
      record {
        holds = (let rises : i < c = omega arith in let within : c ≤ length tokens.list = hc.within in
            record {
              rises = rises;
              within = within;
              stands = ((refl, rises, within), row_of_args tokens i c xs (hb.stands i c (omega arith) (omega arith)));
            });
      }))))

  pub designator_equal : TreeStands tokens (StandsDesignator tokens) (lists.designator_equal tokens deeper)
  unfolding lists.designator_equal
  designator_equal i = spanned tokens _ i _ (
      next _ _ _ _ (takes_punctuator tokens DOT i) (λ _ a ha.
      next _ _ _ _ (identifier_stands tokens a) (λ n b hb.
      next _ _ _ _ (takes_punctuator tokens EQUAL b) (λ _ c hc.
      next _ _ _ _ (arg c) (λ x d hd.
      record {
        holds = (let rises : i < d = omega arith in let within : d ≤ length tokens.list = hd.within in
            record {
              rises = rises;
              within = within;
              stands = ((refl, rises, within), c, (a, b, omega arith, hb.stands, omega arith), (c, d, omega arith, hd.stands, omega arith));
            });
      })))))

  pub designator_braced : TreeStands tokens (StandsDesignator tokens) (lists.designator_braced tokens deeper)
  unfolding lists.designator_braced
  designator_braced i = spanned tokens _ i _ (
      next _ _ _ _ (takes_punctuator tokens DOT i) (λ _ a ha.
      next _ _ _ _ (identifier_stands tokens a) (λ n b hb.
      next _ _ _ _ (h.braceds b) (λ x c hc.
      record {
        holds = (let rises : i < c = omega arith in let within : c ≤ length tokens.list = hc.within in
            record {
              rises = rises;
              within = within;
              stands = ((refl, rises, within), b, (a, b, omega arith, hb.stands, omega arith), (b, c, omega arith, hc.stands, omega arith));
            });
      }))))

  pub designator : TreeStands tokens (StandsDesignator tokens) (lists.designator tokens deeper)
  unfolding lists.designator
  designator i = either _ _ _ (designator_equal i) (designator_braced i)

  pub clause_plain : TreeStands tokens (StandsClause tokens) (lists.clause_plain tokens deeper)
  unfolding lists.clause_plain
  clause_plain i = next _ _ _ _ (arg i) (λ x a ha. record { holds = record { rises = ha.rises; within = ha.within; stands = ha.stands } })

  pub clause_designator : TreeStands tokens (StandsClause tokens) (lists.clause_designator tokens deeper)
  unfolding lists.clause_designator
  clause_designator i = next _ _ _ _ (designator i) (λ x a ha. record { holds = record { rises = ha.rises; within = ha.within; stands = ha.stands } })

  pub clause : TreeStands tokens (StandsClause tokens) (lists.clause tokens deeper)
  unfolding lists.clause
  clause i = either _ _ _ (clause_plain i) (clause_designator i)

  pub next_clause : TreeStands tokens (In (StandsClause tokens)) (lists.next_clause tokens deeper)
  unfolding lists.next_clause
  next_clause i = next _ _ _ _ (takes_punctuator tokens COMMA i) (λ _ a ha. later tokens (StandsClause tokens) i a _ (omega arith) (clause a))

  -- clauses of which there is one at least
  record Found (first : ℕ) (found : Clauses) (k : ℕ) : Type 0 where
    rises : first < k
    within : k ≤ length tokens.list
    stands : (low high : ℕ) → low ≤ first → k ≤ high → StandsClauses tokens low high found

  one_clause : (first : ℕ) (found : Clauses) (i : ℕ) → Found first found i → Where (λ all k. Found first all k) (clauses_on tokens deeper found i)
  one_clause first found i now = let from : first < i = now.rises in next _ _ _ _ (next_clause i) (λ x a ha. let rises : i < a = ha.rises in record {
    holds = record {
      rises = omega arith;
      within = ha.within;
      stands = λ low high before behind. with_clause_stands tokens low i high found x (now.stands low i before (omega arith)) (wider (StandsClause tokens) i i a high x (omega arith) behind ha.stands);
    };
  })

  more_clauses : (first : ℕ) (found : Clauses) (i : ℕ) → Found first found i → Where (λ all k. Found first all k) (lists.more_clauses tokens deeper found i)
  unfolding lists.more_clauses
  more_clauses first found i now = turned (λ all k. Found first all k) (clauses_on tokens deeper) (one_clause first) (left tokens i) found i now

  first_of : (i k : ℕ) (x : Clause) → Part tokens (StandsClause tokens) i x k → Found i (first_clause x) k
  first_of i k x hx = record { rises = hx.rises; within = hx.within; stands = λ low high before behind. first_clause_stands tokens low high x (i, k, before, hx.stands, behind) }

  pub some_clauses : TreeStands tokens (StandsClauses tokens) (lists.some_clauses tokens deeper)
  unfolding lists.some_clauses
  some_clauses i =
      next _ _ _ _ (clause i) (λ x a ha.
      next _ _ _ _ (more_clauses i (first_clause x) a (first_of i a x ha)) (λ all b hb.
      next _ _ _ _ (passes_present tokens _ (takes_punctuator tokens COMMA) b) (λ _ c hc.
      record { holds = record { rises = omega arith; within = hc.within hb.within; stands = hb.stands i c (omega arith) (omega arith) } })))

  pub clauses_if_any : GroupStands tokens (StandsClauses tokens) (lists.clauses_if_any tokens deeper)
  unfolding lists.clauses_if_any
  clauses_if_any i = next _ _ _ _ (stands_optional tokens _ _ (loosely tokens _ _ some_clauses) i) (λ o a ha. record {
    holds = record {
      goes = ha.goes;
      within = ha.within;
      stands = λ first end before behind. clauses_or_none_stand tokens first end o (ha.stands first end before behind);
    };
  })

  -- the list that the clauses make, from the token of its brace on
  made : (i k : ℕ) (c : Clauses) → i < k → k ≤ length tokens.list → StandsClauses tokens i k c
      → Where (λ f k. Part tokens (StandsBraced tokens) i (f (span tokens i k)) k) (braced_of c k)
  made i k (clauses-of.Plain xs) rises within hs = record { holds = record { rises = rises; within = within; stands = ((refl, rises, within), row_of_args tokens i k xs hs) } }
  made i k (clauses-of.Designated xs) rises within hs = record { holds = record { rises = rises; within = within; stands = ((refl, rises, within), row_of_designators tokens i k xs hs) } }
  made i k clauses-of.Mixed rises within hs = record { holds = tt }

  pub braced : TreeStands tokens (StandsBraced tokens) (lists.braced tokens deeper)
  unfolding lists.braced
  braced i = spanned tokens _ i _ (
      next _ _ _ _ (takes_punctuator tokens LEFT_BRACE i) (λ _ a ha.
      next _ _ _ _ (clauses_if_any a) (λ found b hb.
      next _ _ _ _ (takes_punctuator tokens RIGHT_BRACE b) (λ _ c hc.
      made i c found (omega arith) hc.within (hb.stands i c (omega arith) (omega arith))))))
