-- The law of parts, form by form.
use Rattle.std.proofs.Common.{refl}
use Rattle.tree_same.specs.Laws.{PartsDecide}
use Rattle.tree_same.proofs.Forms as forms

pub parts_decide : PartsDecide
parts_decide = record {
  are_paren = λ s t a b. (let both = forms.are_paren _ _ s t a b refl refl in (both.1, both.0));
  are_braced = λ s t a b c d. (let both = forms.are_braced _ _ s t a b c d refl refl in (both.1, both.0));
  are_typename_call = λ s t a b c d. (let both = forms.are_typename_call _ _ s t a b c d refl refl in (both.1, both.0));
  are_static_cast = λ s t a b c d. (let both = forms.are_static_cast _ _ s t a b c d refl refl in (both.1, both.0));
  are_extract = λ s t a b c d e f. (let both = forms.are_extract _ _ s t a b c d e f refl refl in (both.1, both.0));
  are_postfix = λ s t a b c d. (let both = forms.are_postfix _ _ s t a b c d refl refl in (both.1, both.0));
  are_unary = λ s t a b c d. (let both = forms.are_unary _ _ s t a b c d refl refl in (both.1, both.0));
  are_reflect = λ s t a b. (let both = forms.are_reflect _ _ s t a b refl refl in (both.1, both.0));
  are_sizeof_type = λ s t a b. (let both = forms.are_sizeof_type _ _ s t a b refl refl in (both.1, both.0));
  are_sizeof_expr = λ s t a b. (let both = forms.are_sizeof_expr _ _ s t a b refl refl in (both.1, both.0));
  are_delete = λ s t a b c d. (let both = forms.are_delete _ _ s t a b c d refl refl in (both.1, both.0));
  are_new = λ s t a b c d e f. (let both = forms.are_new _ _ s t a b c d e f refl refl in (both.1, both.0));
  are_chain = λ s t a b c d. (let both = forms.are_chain _ _ s t a b c d refl refl in (both.1, both.0));
  are_conditional = λ s t a b c d e f. (let both = forms.are_conditional _ _ s t a b c d e f refl refl in (both.1, both.0));
  are_splice = λ s t a b. (let both = forms.are_splice _ _ s t a b refl refl in (both.1, both.0));
  are_args = λ s t a b. (let both = forms.are_args _ _ s t a b refl refl in (both.1, both.0));
  are_clauses = λ s t a b. (let both = forms.are_clauses _ _ s t a b refl refl in (both.1, both.0));
  are_designated = λ s t a b. (let both = forms.are_designated _ _ s t a b refl refl in (both.1, both.0));
  are_subscript = λ s t a b. (let both = forms.are_subscript _ _ s t a b refl refl in (both.1, both.0));
}
