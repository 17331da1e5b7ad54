mod Records
mod SoFar
