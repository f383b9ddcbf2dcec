use Rattle.std.proofs.Common.{OnOk, Result, Ok, Err}
use Rattle.codegen.proofs.LevelTexts.{inner_prefixed}
use Rattle.codegen.proofs.class_texts.emit_prefixed_text.Goals as goal

on_ok : {X E : Type 0} (r : Result X E) (P Q : Type 0) → (P → Q) → OnOk r P → OnOk r Q
on_ok (Ok x) P Q f h = f h
on_ok (Err e) P Q f h = h

pub returns : goal.returns
returns c =
    on_ok c.emit_class_text.result _ _
    (inner_prefixed c.args.bound.now c.args.written.now c.emit_class_text.new.written c.args.text c.in_ok-entry.entry c.args.prefix.now c.args.block.now c.deref.result.now c.deref-2.result.now c.if-text-eq0.false c.deref.ensures.value c.deref-2.ensures.value)
    c.emit_class_text.ensures
