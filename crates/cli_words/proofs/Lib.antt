mod JudgeLemmas
mod NumberLemmas
