-- The operations that a formula is written over: every formula of this crate takes them as its first argument. Definitions only.
pub record Arithmetic (A : Type 0) : Type 0 where
  pub zero : A
  pub one : A
  pub two : A
  pub add : A → A → A
  pub sub : A → A → A
  pub mul : A → A → A
  pub neg : A → A
  pub div : A → A → A
  pub root : A → A
