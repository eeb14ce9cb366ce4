mod RowTokens
mod Parts
