pub mod Figures
pub mod QuestionFigures
