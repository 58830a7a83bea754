mod ReportTexts
mod ReportEnding
