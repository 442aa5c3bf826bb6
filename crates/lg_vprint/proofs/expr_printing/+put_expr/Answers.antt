use Rattle.std.proofs.Common.{rules}
use Rattle.lg_vprint.proofs.Parts.{join_from_parts}
use Rattle.lg_vprint.proofs.Forms.{bit_printed, part_printed, item_printed, not_printed, binary_printed, choice_printed, join_begun}
use Rattle.lg_vprint.proofs.expr_printing.+put_expr.Goals as goal

pub loop-other-init : goal.loop-other-init
loop-other-init t c = (
  join_begun _ _ _ _ _ _ _ _ _ _ _ _ c.in-Join.is c.get-in-Join.ensures c.get-in-Join-2.ensures c.as_slice-other-items.ensures
      c.in_ok-put-in-Join.ensures c.in_ok-put_expr-in-Join.ensures.text c.in_ok-put-in-Join-2.ensures c.in_ok-put_expr-in-Join-2.ensures.text,
  λ m. search (rules, join_from_parts, m),
)

pub returns-in_ok-put_number-in-Bit-clause-text : goal.returns-in_ok-put_number-in-Bit-clause-text
returns-in_ok-put_number-in-Bit-clause-text t c =
    bit_printed c.put-in-Bit.result _ _ _ _ _ _ _ c.in-Bit.is c.in_ok-put_open-in-Bit.ensures.text c.in_ok-put_number-in-Bit.ensures.text c.put-in-Bit.ensures

pub returns-in_ok-put_number-in-Part-2-clause-text : goal.returns-in_ok-put_number-in-Part-2-clause-text
returns-in_ok-put_number-in-Part-2-clause-text t c =
    part_printed c.put-in-Part-2.result _ _ _ _ _ _ _ _ _ _ c.in-Part.is c.in_ok-put_open-in-Part.ensures.text c.in_ok-put_number-in-Part.ensures.text c.in_ok-put-in-Part.ensures c.in_ok-put_number-in-Part-2.ensures.text c.put-in-Part-2.ensures

pub returns-in_ok-put_expr-in-Item-clause-text : goal.returns-in_ok-put_expr-in-Item-clause-text
returns-in_ok-put_expr-in-Item-clause-text t c =
    item_printed c.put-in-Item.result _ _ _ _ _ _ _ _ c.in-Item.is c.get.ensures c.in_ok-put_open-in-Item.ensures.text c.in_ok-put_expr-in-Item.ensures.text c.put-in-Item.ensures

pub returns-in_ok-put_expr-in-Not-clause-text : goal.returns-in_ok-put_expr-in-Not-clause-text
returns-in_ok-put_expr-in-Not-clause-text t c =
    not_printed c.put-in-Not-2.result _ _ _ _ _ _ _ c.in-Not.is c.get-in-Not.ensures c.in_ok-put-in-Not.ensures c.in_ok-put_expr-in-Not.ensures.text c.put-in-Not-2.ensures

pub returns-in_ok-put_expr-in-Binary-2-clause-text : goal.returns-in_ok-put_expr-in-Binary-2-clause-text
returns-in_ok-put_expr-in-Binary-2-clause-text t c =
    binary_printed c.put-in-Binary-5.result _ _ _ _ _ _ _ _ _ _ _ _ _ _ _ c.in-Binary.is c.get-in-Binary.ensures c.as_str-in-Binary.ensures c.get-in-Binary-2.ensures
    c.in_ok-put-in-Binary.ensures c.in_ok-put_expr-in-Binary.ensures.text c.in_ok-put-in-Binary-2.ensures c.in_ok-put-in-Binary-3.ensures c.in_ok-put-in-Binary-4.ensures c.in_ok-put_expr-in-Binary-2.ensures.text c.put-in-Binary-5.ensures

pub returns-in_ok-put_expr-in-Choice-3-clause-text : goal.returns-in_ok-put_expr-in-Choice-3-clause-text
returns-in_ok-put_expr-in-Choice-3-clause-text t c =
    choice_printed c.put-in-Choice-4.result _ _ _ _ _ _ _ _ _ _ _ _ _ _ _ c.in-Choice.is c.get-in-Choice.ensures c.get-in-Choice-2.ensures c.get-in-Choice-3.ensures
    c.in_ok-put-in-Choice.ensures c.in_ok-put_expr-in-Choice.ensures.text c.in_ok-put-in-Choice-2.ensures c.in_ok-put_expr-in-Choice-2.ensures.text c.in_ok-put-in-Choice-3.ensures c.in_ok-put_expr-in-Choice-3.ensures.text c.put-in-Choice-4.ensures
